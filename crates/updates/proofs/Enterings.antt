-- A filing, by its steps: a refused word, a refused filing, and what is committed. Assumes nothing.
use mathlib.Core.Path.{◌≡◌, sym, ap, ap₂, ◌∙◌, subst}
use mathlib.Core.Bool.{true}
use mathlib.Core.List.{List}
use mathlib.Core.Option.{Option}
use Prim.Native.Nat.{ℕ, suc, ◌+◌, ◌<◌}
use native.Mathlib.Nat.{add-zero}
use native.Mathlib.Omega.{arith}
use lib.ListN.{length, take}
use lib.Seq.{sets, length-sets}
use Rattle.std.specs.Prelude.{⊤, Result, Ok, Err}
use Rattle.group.specs.Letters.{Word}
use Rattle.group.specs.Forms.{Form, b_side, a_side}
use Rattle.group.specs.Products.{form_of}
use Rattle.refusals.specs.declared.Refusal.{Refusal}
use Rattle.refusals.specs.Outcomes.{Outcome, accepted, then, drop_value, refusal, verdict_of}
use Rattle.refusals.proofs.Answered.{count_in}
use Rattle.refusals.specs.Memory.{Memory}
use Rattle.fields.specs.Fields.{Bytes, four_bytes, head_size}
use Rattle.records.specs.Format.{encode}
use Rattle.records.specs.Reading.{frames}
use Rattle.records.specs.Exchange.{smaller_record}
use Rattle.records.proofs.ReadBack.{frames-encode}
use Rattle.records.proofs.Exchanges.{smaller-encode}
use Rattle.records.proofs.SmallerRecords.{smaller_long}
use Rattle.forest.specs.Filling.{table_after}
use Rattle.words.specs.Recording.{encode_word, buffer_after, judged_with, Left, Recorded}
use Rattle.words.specs.Recording.{beside}
use Rattle.words.specs.inside.Writing.{Accepts}
use Rattle.words.proofs.Written.{verdict_refused}
use Rattle.registers.specs.Format.{Entry, Register, register_bytes, entry_bytes, end_mark, stored}
use Rattle.registers.specs.Reading.{live}
use Rattle.registers.proofs.Written.{Holds, register_written}
use Rattle.registers.proofs.WellFormed.{reads_well_formed}
use Rattle.updates.specs.declared.Account.{Account}
use Rattle.updates.specs.declared.Entered.{Entered}
use Rattle.updates.specs.declared.deciding.Place.{Place}
use Rattle.updates.specs.declared.deciding.Decision.{Decision}
use Rattle.updates.specs.declared.deciding.Decision.TheVariants.{New, Present}
use Rattle.updates.specs.Accounts.{account_in, raised}
use Rattle.updates.specs.Entering.{stored_form, Reply, new_entry, present, with_entry, Found, grown, kept, answered}
use Rattle.updates.specs.Entering.{entered_word, entered_in, left_by, register_after, answer_of, entered_of}
use Rattle.updates.specs.Entering.{Answer, EnteredWord}
use Rattle.updates.specs.inside.Steps.{answered_form, DecidedAs, Decided}
use Rattle.updates.specs.inside.Steps.{entry_length, new_stored, Committable, Committed}
use Rattle.updates.proofs.Fitting.{grown-length, entry_length_lem, room_in}
use Rattle.updates.proofs.OnlyNew.{only_new}
use Rattle.updates.proofs.Charging.{live_one}
use Rattle.updates.proofs.Decisions.{answered_read, answered_new}
use Rattle.updates.proofs.OwnRecords.{judged_own, own_front, own_answered}

-- What a decision asks of the register and of the record, the smaller of which with its exchange is stored, is so.
committable_as : (f : Form) (h : ℕ) (s bytes : List ℕ) → Bytes s → frames bytes ≡ true
    → smaller_record bytes ≡ encode f → (d : Decision) → DecidedAs f h s (Ok d) → Committable d bytes s
committable_as f h s bytes b framed same (New p) i =
    let q = room_in s i.register h f (register_written s i.register b i.reads) i.enters in
    record {
      framed = framed;
      room = omega (arith, q.room, i.end, ap length same, smaller_long bytes framed);
      behind = omega (arith, q.behind, i.end);
      short = q.short;
      number = omega (arith, i.number, q.last_low);
      live = omega (arith, ap (λ (a : Account). a.live) i.account, q.live_few);
    }
committable_as f h s bytes b framed same (Present k a) i =
    omega (
      arith,
      ap (λ (x : Account). x.live) i.account,
      ((reads_well_formed s i.register b).0 i.reads).rules.four h,
    )

-- The place of a new entry in a register.
abbrev place_in : Register → ℕ → Place
place_in r h = record { number = suc r.last; end = length (register_bytes r); account = account_in h r }

-- The register that a new entry leaves.
stored_new : (s : List ℕ) (r : Register) (h : ℕ) (f : Form) → Holds s r
    → new_stored (place_in r h) (encode f) s ≡ stored (with_entry r h f) s
stored_new s r h f w =
    let e : Entry = record { number = suc r.last; holder = h; form = f } in
    let first : List ℕ = sets s head_size (four_bytes (suc r.last)) in
    let end : ℕ = length (register_bytes r) in
    let x : List ℕ = sets first end (entry_bytes e) in
    let at : end + entry_length (length (encode f)) ≡ end + length (entry_bytes e) = omega (arith, entry_length_lem e) in
    let behind : end + entry_length (length (encode f)) ≡ length (register_bytes (with_entry r h f)) =
    omega (arith, grown-length r h f) in
    let long : length x ≡ length s =
    length-sets first end (entry_bytes e) ∙ length-sets s head_size (four_bytes (suc r.last)) in
    ap₂ (λ (i : ℕ) (l : List ℕ). sets x i l) at (ap₂ end_mark behind long) ∙ sym (only_new s r h f w)

-- The outcome of a filing that is not refused.
abbrev answer : Reply → Account → Outcome Answer
answer y a = accepted (record { reply = y; account = a })

-- What it found, answered and left.
record Filed (f : Form) (h : ℕ) (s s' : List ℕ) (r : Entered) : Type 0 where
  found : Found
  answers : answered_form s h f ≡ accepted found
  result : entered_of (Ok r) ≡ answer found.answer (account_in h found.register)
  register : s' ≡ left_by s found

-- What was committed is what was decided.
filed_as : (f : Form) (h : ℕ) (s s' bytes : List ℕ) (r : Entered) → Bytes s → bytes ≡ encode f → (d : Decision)
    → DecidedAs f h s (Ok d) → Committed d bytes s s' r → Filed f h s s' r
filed_as f h s s' bytes r b same (New p) i c =
    let q = i.register in
    let place : p ≡ place_in q h =
    ap (λ (n : ℕ). record { number = n; end = p.end; account = p.account }) i.number
    ∙ ap (λ (n : ℕ). record { number = suc q.last; end = n; account = p.account }) i.end
    ∙ ap (λ (a : Account). record { number = suc q.last; end = length (register_bytes q); account = a })
    i.account in
    record {
      found = grown (with_entry q h f);
      answers =
          answered_new s h f q i.reads i.absent
          ∙ ap (λ (o : Outcome Register). then o (λ x. accepted (grown x))) i.enters;
      result =
          ap (λ (x : Entered). entered_of (Ok x)) c.answer
          ∙ ap (λ (x : Place). answer (new_entry x.number) (raised x.account 1)) place
          ∙ ap (λ (n : ℕ). answer (new_entry (suc q.last)) (record { holder = h; live = n })) (sym (live_one q h f));
      register =
          c.register
          ∙ ap₂ (λ (x : Place) (l : List ℕ). new_stored x l s) place same
          ∙ stored_new s q h f (register_written s q b i.reads);
    }
filed_as f h s s' bytes r b same (Present k a) i c =
    let q = i.register in
    record {
      found = kept q k;
      answers =
          answered_read s h f q i.reads ∙ ap (λ (o : Option ℕ). answered o q (length s) h f) i.has;
      result =
          ap (λ (x : Entered). entered_of (Ok x)) c.1
          ∙ ap (λ (x : Account). answer (present k) (raised x 0)) i.account
          ∙ ap (λ (n : ℕ). answer (present k) (record { holder = h; live = n })) (add-zero (live h q.entries));
      register = c.0;
    }

-- Where a filing is refused nothing that was lent is altered.
module _ (word : List ℕ) (m : Memory) (h : ℕ) (s : List ℕ) (two : h < 65536) (bytes : Bytes s) where
  nothing-entered : (r : Refusal) → entered_in word m s h ≡ refusal r → EnteredWord word m m h s s (Err r)
  nothing-entered r e =
      let none : beside (judged_with word m) (entered_in word m s h) ≡ refusal r =
      ap (λ (o : Outcome Found). beside (judged_with word m) o) e in
      record {
        result = sym (ap (λ (o : Outcome Found). answer_of h o) e);
        leaves = record {
          b_table = sym (ap (λ (o : Outcome Word). table_after b_side o m.b) none);
          a_table = sym (ap (λ (o : Outcome Word). table_after a_side o m.a) none);
          bytes = sym (ap (λ (o : Outcome Word). buffer_after o m.buffer) none);
        };
        register = sym (ap (λ (o : Outcome Found). register_after o s) e);
        two_bytes_is = two;
        are_bytes = bytes;
      }

  -- The word is refused.
  pub word_refused : (v : Result ⊤ Refusal) {r : Refusal} → verdict_of v ≡ drop_value (judged_with word m) → v ≡ Err r
      → EnteredWord word m m h s s (Err r)
  word_refused v {r} told e =
      nothing-entered r
      (ap (λ (o : Outcome Word). then o (λ w. entered_word s h w)) (verdict_refused (judged_with word m) v r told e))

  module _ (f : Accepts word m) where
    -- What a filing of the word comes to.
    entered_form : entered_in word m s h ≡ answered_form s h (stored_form f.letters)
    entered_form = ap (λ (o : Outcome Word). then o (λ w. entered_word s h w)) f.judged_so

    module _ {d : Result Decision Refusal} (told : Decided word h s d) where
      decided_so : DecidedAs (stored_form f.letters) h s d
      decided_so = told.decides f.letters (judged_own word _ _ _ f.letters f.judged_so)

      -- The filing is refused.
      pub filing_refused : {r : Refusal} → d ≡ Err r → EnteredWord word m m h s s (Err r)
      filing_refused {r} e =
          nothing-entered r
          (entered_form ∙ subst (λ (q : Result Decision Refusal). DecidedAs (stored_form f.letters) h s q) e decided_so)

      -- An accepted word is written.
      pub never_refused : {exit : Memory} {y : Result ℕ Refusal} → Recorded word m exit y → (x : Refusal)
          → y ≡ Err x → ⊥
      never_refused written x e = own_answered written f.letters f.judged_so x e

      -- The bytes that are counted are the word's record, and the smaller of it and its exchange is that of the form.
      module _ {exit : Memory} {y : Result ℕ Refusal} {n : ℕ} {x : Decision} (written : Recorded word m exit y)
          (counted : n ≡ count_in y) (is : d ≡ Ok x) where
        own_record : take n exit.buffer ≡ encode_word f.letters
        own_record =
            ap (λ (k : ℕ). take k exit.buffer) counted ∙ own_front written f.letters f.judged_so

        counted_record : smaller_record (take n exit.buffer) ≡ encode (stored_form f.letters)
        counted_record = ap smaller_record own_record ∙ smaller-encode (form_of f.letters)

        decided_as : DecidedAs (stored_form f.letters) h s (Ok x)
        decided_as = subst (λ (q : Result Decision Refusal). DecidedAs (stored_form f.letters) h s q) is decided_so

        pub committable : Committable x (take n exit.buffer) s
        committable =
            committable_as (stored_form f.letters) h s (take n exit.buffer) bytes
            (ap frames own_record ∙ frames-encode (form_of f.letters)) counted_record x decided_as

        -- What is committed is the filing.
        pub entered_so : {s' : List ℕ} {r : Entered}
            → Committed x (smaller_record (take n exit.buffer)) s s' r → EnteredWord word m exit h s s' (Ok r)
        entered_so {s'} {r} done =
            let form = stored_form f.letters in
            let front = smaller_record (take n exit.buffer) in
            let filed = filed_as form h s s' front r bytes counted_record x decided_as done in
            let so : entered_in word m s h ≡ accepted filed.found = entered_form ∙ filed.answers in
            record {
              result = filed.result ∙ sym (ap (λ (o : Outcome Found). answer_of h o) so);
              leaves =
                  subst (λ (o : Outcome Word). Left o m exit)
                  (sym (ap (λ (o : Outcome Found). beside (judged_with word m) o) so)) written.leaves;
              register = filed.register ∙ sym (ap (λ (o : Outcome Found). register_after o s) so);
              two_bytes_is = two;
              are_bytes = bytes;
            }
