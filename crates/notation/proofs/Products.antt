-- What is written where a text's powers are recorded. Assumes nothing.
use mathlib.Core.Path.{◌≡◌, refl, sym, ap, ap₂, ◌∙◌}
use mathlib.Core.Bool.{Bool, true, false, cond}
use mathlib.Core.List.{List}
use Prim.Native.Nat.{ℕ, suc, ◌≤◌}
use native.Mathlib.Omega.{arith}
use lib.Dec.{ltb}
use lib.ListN.{length, take}
use lib.Seq.{sets}
use borrow.Author.Tests.{le-ltb}
use Rattle.std.specs.Prelude.{Result, Ok}
use Rattle.refusals.specs.declared.Failure.{Failure}
use Rattle.lists.specs.Tables.{values}
use Rattle.lists.proofs.Tables.{values_length, filled_front}
use Rattle.group.specs.Limits.{limit}
use Rattle.group.specs.Forms.{Side, b_side, a_side, exponent, levels}
use Rattle.group.specs.Powers.{SignedPower, exponent_sizes}
use Rattle.group.proofs.Powers.{product_sum}
use Rattle.refusals.specs.declared.Refusal.{Refusal}
use Rattle.refusals.specs.Outcomes.{Outcome, accepted, refused, after, then, valued, drop_value, reply_of}
use Rattle.refusals.specs.Memory.{Memory, memory}
use Rattle.refusals.proofs.Outcomes.{accepted_refused, drop_accepted}
use Rattle.records.specs.Format.{record_of, encode, buffer_size}
use Rattle.records.proofs.FormTables.{record_values}
use Rattle.records.proofs.Lengths.{encode_size}
use Rattle.encoding.specs.inside.Contracts.{encode_tables, Encoded}
use Rattle.encoding.proofs.WriteAnswers.{encoded_accepted}
use Rattle.forest.specs.Filling.{product_form, tables_for, product_table}
use Rattle.notation.specs.inside.Products.{FilledBy, judged_product, ProductRecorded}

-- Powers that are accepted beside tables.
module _ (nb na : ℕ) (ps : List SignedPower) where
  -- They are themselves what is found.
  tables_only : (qs : List SignedPower) → tables_for nb na ps ≡ accepted qs → tables_for nb na ps ≡ accepted ps
  tables_only qs e = go (ltb (suc limit) (levels (product_form ps))) (ltb nb (suc limit)) (ltb na (suc limit)) e
    where
      go : (h b a : Bool)
          → cond h (refused 11 0) (cond b (refused 6 0) (cond a (refused 6 0) (accepted ps))) ≡ accepted qs
          → cond h (refused 11 0) (cond b (refused 6 0) (cond a (refused 6 0) (accepted ps))) ≡ accepted ps
      go true b a e = absurd (accepted_refused (sym e))
      go false true a e = absurd (accepted_refused (sym e))
      go false false true e = absurd (accepted_refused (sym e))
      go false false false e = refl

  tables_dropped : accepted 0 ≡ drop_value (tables_for nb na ps) → tables_for nb na ps ≡ accepted ps
  tables_dropped e = let x = drop_accepted (tables_for nb na ps) e in tables_only x.0 x.1

-- The tables before the buffer.
module _ (ps : List SignedPower) (m : Memory) where
  -- What is found of the powers and the tables.
  abbrev tables : Outcome (List SignedPower)
  tables = tables_for (length m.b) (length m.a) ps

  -- The buffer's test.
  abbrev buffer_for : Outcome (List SignedPower) → Outcome (List SignedPower)
  buffer_for o =
      then o (λ qs. cond (ltb (length m.buffer) (buffer_size (exponent_sizes qs))) (refused 7 0) (accepted qs))

  -- Where they are accepted, the buffer decides.
  product_room : tables ≡ accepted ps → buffer_size (exponent_sizes ps) ≤ length m.buffer
      → judged_product ps m ≡ accepted ps
  product_room e h =
      ap buffer_for e
      ∙ ap (λ (t : Bool). cond t (refused 7 0) (accepted ps))
      (le-ltb (length m.buffer) (buffer_size (exponent_sizes ps)) h)

-- Powers beside a buffer that is long enough: what is written.
module _ {ps : List SignedPower} {b a b' a' : List ℕ} {v : Result ℕ Refusal} (t : FilledBy ps b a b' a' v) where
  module _ (n : ℕ) (e : v ≡ Ok n) where
    accepts : tables_for (length b) (length a) ps ≡ accepted ps
    accepts =
        tables_dropped (length b) (length a) ps
        (sym (ap (λ (x : Result ℕ Refusal). drop_value (reply_of x)) e) ∙ t.result)

    pub filled-levels : (levels (product_form ps) ≤ n) × (n ≤ suc limit)
    filled-levels = t.levels_read n e accepts

    -- The record of the front of both tables is that of the form.
    front : (s : Side) (l l' : List ℕ) → l' ≡ product_table s (tables_for (length b) (length a) ps) l
        → take n l' ≡ values n (exponent s (product_form ps))
    front s l l' h =
        ap (take n) (h ∙ ap (λ (o : Outcome (List SignedPower)). product_table s o l) accepts)
        ∙ filled_front n (suc limit) (exponent s (product_form ps)) l filled-levels.1

    front_record : record_of (take n b') (take n a') ≡ encode (product_form ps)
    front_record =
        ap₂ record_of (front b_side b b' t.b_table) (front a_side a a' t.a_table)
        ∙ record_values (product_form ps) n filled-levels.0

    front_length : (s : Side) (l l' : List ℕ) → l' ≡ product_table s (tables_for (length b) (length a) ps) l
        → length (take n l') ≤ suc limit
    front_length s l l' h =
        omega (
          arith,
          ap length (front s l l' h),
          values_length n (exponent s (product_form ps)),
          filled-levels.1,
        )

    module _ (buffer : List ℕ) (room : buffer_size (exponent_sizes ps) ≤ length buffer) where
      record_fits : length (record_of (take n b') (take n a')) ≤ length buffer
      record_fits = omega (arith, ap length front_record, encode_size (product_form ps), product_sum ps, room)

      writer_accepts : encode_tables (take n b') (take n a') (length buffer) ≡ accepted (encode (product_form ps))
      writer_accepts =
          simp (
            le-ltb (suc limit) (length (take n b')) (front_length b_side b b' t.b_table),
            le-ltb (suc limit) (length (take n a')) (front_length a_side a a' t.a_table),
            le-ltb (length buffer) (length (record_of (take n b') (take n a'))) record_fits,
          )
          (ap accepted front_record)

      -- The writer refuses nothing.
      pub filled_writes : {buffer' : List ℕ} (r : Result ℕ Failure) → Encoded (take n b') (take n a') buffer buffer' r
          → r ≡ Ok (length (encode (product_form ps)))
      filled_writes r w =
          encoded_accepted r (length (encode (product_form ps)))
          (w.result ∙ ap (λ (o : Outcome (List ℕ)). valued length o) writer_accepts)

      pub filled_written : {buffer' : List ℕ} (r : Result ℕ Failure) (k : ℕ) → r ≡ Ok k
          → Encoded (take n b') (take n a') buffer buffer' r
          → ProductRecorded ps (memory b a buffer) (memory b' a' buffer') (Ok k)
      filled_written r k is w =
          let all = product_room ps (memory b a buffer) accepts room in
          let count : k ≡ length (encode (product_form ps)) = cc (filled_writes r w) in
          record {
            result = ap accepted count ∙ sym (ap (valued (λ qs. length (encode (product_form qs)))) all);
            b_table =
                t.b_table
                ∙ ap (λ (o : Outcome (List SignedPower)). product_table b_side o b) (accepts ∙ sym all);
            a_table =
                t.a_table
                ∙ ap (λ (o : Outcome (List SignedPower)). product_table a_side o a) (accepts ∙ sym all);
            bytes =
                w.bytes
                ∙ ap (λ (o : Outcome (List ℕ)). after o buffer (λ l. sets buffer 0 l)) writer_accepts
                ∙ sym
                (ap (λ (o : Outcome (List SignedPower)).
                after o buffer (λ qs. sets buffer 0 (encode (product_form qs))))
                all);
          }
