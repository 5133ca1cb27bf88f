-- Word to record with lent scratch, where the record buffer has room: what the engine refuses is refused, and else its
-- tables give the word's record. Assumes nothing.
use mathlib.Core.Path.{◌≡◌, refl, sym, ap, ap₂, ◌∙◌}
use mathlib.Core.Bool.{Bool, true, false}
use mathlib.Core.List.{List}
use Prim.Native.Nat.{ℕ, suc, ◌+◌, ◌≤◌}
use native.Mathlib.Omega.{arith}
use lib.ListN.{length, take}
use lib.Seq.{sets}
use borrow.Author.Tests.{le-ltb}
use Rattle.std.specs.Prelude.{Result, Ok, Err}
use Rattle.refusals.specs.declared.Failure.{Failure}
use Rattle.refusals.specs.declared.Failure.TheVariants.{Refused, Unfit}
use Rattle.lists.specs.Tables.{values, filled}
use Rattle.lists.proofs.Tables.{values_length, filled_front}
use Rattle.group.specs.Letters.{Word}
use Rattle.group.specs.Forms.{Side, b_side, a_side, levels, exponent}
use Rattle.group.specs.Products.{form_of}
use Rattle.group.specs.Limits.{limit}
use Rattle.group.proofs.Bytes.{read_length}
use Rattle.group.proofs.Sizes.{form_sum}
use Rattle.refusals.specs.Refusals.{number_of, place_of}
use Rattle.refusals.specs.Outcomes.{Outcome, accepted, refused, after, valued}
use Rattle.refusals.specs.Memory.{memory}
use Rattle.refusals.proofs.Outcomes.{accepted_refused, drop_accepted, drop_refused}
use Rattle.records.specs.Format.{buffer_size, record_of}
use Rattle.encoding.specs.inside.Contracts.{encoding_of, encode_tables, Encoded}
use Rattle.records.proofs.FormTables.{record_values}
use Rattle.records.proofs.Lengths.{encode_size}
use Rattle.letters.specs.Judging.{judged}
use Rattle.letters.proofs.Judged.{Fit, accepted_fit}
use Rattle.forest.specs.Filling.{table_after}
use Rattle.forest.specs.inside.Filling.{fits, judged_in, filling_of, FilledTables}
use Rattle.words.specs.Recording.{encode_word, count_record, buffer_after}
use Rattle.words.specs.inside.Lending.{recording_of, tested_by, judged_within, RecordedWith}
use Rattle.words.proofs.Judged.{judged_roomy}

-- Accepted behind a test, which is passed then.
pub tested_accepted : (ok : Bool) (o : Outcome Word) (w : Word) → tested_by ok o ≡ accepted w → o ≡ accepted w
tested_accepted true o w h = h
tested_accepted false o w h = absurd (accepted_refused (sym h))

-- The writer's answers stand for what the call's do.
as_encoding : (r : Result ℕ Failure) → recording_of r ≡ encoding_of r
as_encoding (Ok n) = refl
as_encoding (Err (Refused x)) = refl
as_encoding (Err Unfit) = refl

module _ {word b a lefts rights stack b' a' lefts' rights' stack' : List ℕ} {f : Result ℕ Failure} (buffer : List ℕ)
    (roomy : buffer_size (length word) ≤ length buffer)
    (t : FilledTables word b a lefts rights stack b' a' lefts' rights' stack' f) where
  -- With room for the record, the call judges as the engine does.
  engine_judges : judged_within word (memory b a buffer) lefts rights stack ≡ judged_in word b a lefts rights stack
  engine_judges =
      ap (tested_by (fits word lefts rights stack)) (judged_roomy word (length b) (length a) (length buffer) roomy)

  -- What the engine refuses.
  pub engine_refuses : (n p : ℕ) → filling_of f ≡ refused n p → (r : Result ℕ Failure) → recording_of r ≡ refused n p
      → RecordedWith word (memory b a buffer) (memory b' a' buffer) lefts rights stack lefts' rights' stack' r
  engine_refuses n p e r g =
      let o : judged_in word b a lefts rights stack ≡ refused n p = drop_refused _ (sym e ∙ t.result) in
      let so = engine_judges ∙ o in
      record {
        result = g ∙ sym (ap (λ (q : Outcome Word). count_record q) so);
        leaves = record {
          b_table = t.b_table ∙ sym (ap (λ (q : Outcome Word). table_after b_side q b) engine_judges);
          a_table = t.a_table ∙ sym (ap (λ (q : Outcome Word). table_after a_side q a) engine_judges);
          bytes = sym (ap (λ (q : Outcome Word). buffer_after q buffer) so);
        };
        scratch_kept = λ number place h. t.scratch_kept n p o;
      }

  -- So it is where the tables were not filled.
  pub engine_unfills : {r : Result ℕ Failure} (x : Failure) → f ≡ Err x → r ≡ Err x
      → RecordedWith word (memory b a buffer) (memory b' a' buffer) lefts rights stack lefts' rights' stack' r
  engine_unfills {r} (Refused x) e g =
      engine_refuses (number_of x) (place_of x) (ap filling_of e) r (ap recording_of g)
  engine_unfills {r} Unfit e g = engine_refuses 0 0 (ap filling_of e) r (ap recording_of g)

  -- The engine read n levels of the form of a word.
  module _ (n : ℕ) (e : f ≡ Ok n) where
    found : (w : Word) × (judged_in word b a lefts rights stack ≡ accepted w)
    found = drop_accepted _ (sym (ap filling_of e) ∙ t.result)

    abbrev the_word : Word
    the_word = found.0

    fit : Fit word (length b) (length a) the_word
    fit =
        accepted_fit word (length b) (length a) the_word
        (tested_accepted (fits word lefts rights stack) (judged word (length b) (length a)) the_word found.1)

    same_length : length word ≡ length the_word
    same_length = read_length word the_word fit.reads

    read : (levels (form_of the_word) ≤ n) × (n ≤ length the_word + 1)
    read = t.levels_read n e the_word found.1

    -- The levels are within both tables.
    pub levels_within : (n ≤ length b) × (n ≤ length a)
    levels_within = (omega (arith, read.1, same_length, fit.b_long), omega (arith, read.1, same_length, fit.a_long))

    -- The table that the engine leaves.
    engine_table : (s : Side) (u u' : List ℕ) → u' ≡ table_after s (judged_in word b a lefts rights stack) u
        → u' ≡ filled (length the_word + 1) (exponent s (form_of the_word)) u
    engine_table s u u' h = h ∙ ap (λ (o : Outcome Word). table_after s o u) found.1

    -- The record of the front of both tables is the word's.
    front : (s : Side) (u u' : List ℕ) → u' ≡ table_after s (judged_in word b a lefts rights stack) u
        → take n u' ≡ values n (exponent s (form_of the_word))
    front s u u' h =
        ap (take n) (engine_table s u u' h)
        ∙ filled_front n (length the_word + 1) (exponent s (form_of the_word)) u read.1

    front_record : record_of (take n b') (take n a') ≡ encode_word the_word
    front_record =
        ap₂ record_of (front b_side b b' t.b_table) (front a_side a a' t.a_table)
        ∙ record_values (form_of the_word) n read.0

    front_length : (s : Side) (u u' : List ℕ) → u' ≡ table_after s (judged_in word b a lefts rights stack) u
        → length (take n u') ≤ suc limit
    front_length s u u' h =
        omega (
          arith,
          ap length (front s u u' h),
          values_length n (exponent s (form_of the_word)),
          read.1,
          same_length,
          fit.short,
        )

    record_fits : length (record_of (take n b') (take n a')) ≤ length buffer
    record_fits =
        omega (
          arith,
          ap length front_record,
          encode_size (form_of the_word),
          form_sum the_word,
          roomy,
          same_length,
        )

    -- The record writer takes them.
    writer_accepts : encode_tables (take n b') (take n a') (length buffer) ≡ accepted (encode_word the_word)
    writer_accepts =
        simp (
          le-ltb (suc limit) (length (take n b')) (front_length b_side b b' t.b_table),
          le-ltb (suc limit) (length (take n a')) (front_length a_side a a' t.a_table),
          le-ltb (length buffer) (length (record_of (take n b') (take n a'))) record_fits,
        )
        (ap accepted front_record)

    -- What the call comes to.
    pub engine_writes : {buffer' : List ℕ} {r : Result ℕ Failure} → Encoded (take n b') (take n a') buffer buffer' r
        → RecordedWith word (memory b a buffer) (memory b' a' buffer') lefts rights stack lefts' rights' stack' r
    engine_writes {buffer'} {r} w =
        let so = engine_judges ∙ found.1 in
        record {
          result =
              as_encoding r
              ∙ w.result
              ∙ ap (λ (o : Outcome (List ℕ)). valued length o) writer_accepts
              ∙ sym (ap (λ (o : Outcome Word). count_record o) so);
          leaves = record {
            b_table = t.b_table ∙ sym (ap (λ (q : Outcome Word). table_after b_side q b) engine_judges);
            a_table = t.a_table ∙ sym (ap (λ (q : Outcome Word). table_after a_side q a) engine_judges);
            bytes =
                w.bytes
                ∙ ap (λ (o : Outcome (List ℕ)). after o buffer (λ l. sets buffer 0 l)) writer_accepts
                ∙ sym (ap (λ (o : Outcome Word). buffer_after o buffer) so);
          };
          scratch_kept = λ number place h. absurd (accepted_refused (sym so ∙ h));
        }
