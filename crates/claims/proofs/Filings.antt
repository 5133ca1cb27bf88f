-- Filings, case by case: what is refused, and by which condition; what is found; what is added.
--     judge_filing      the cases of a filing, each with what it comes to
--     entered↔refusal   it is refused just under the conditions of specs/Registers.antt
-- Assumes nothing.
use mathlib.Core.Path.{◌≡◌, refl, sym, ap, ap₂, subst, ◌∙◌}
use mathlib.Core.List.{List, [], ◌∷◌}
use mathlib.Core.Logic.{inl, inr, ◌↔◌}
use mathlib.Core.Option.{Option, none, some}
use Prim.Native.Nat.{ℕ, suc, ◌+◌, ◌<◌, ◌≤◌}
use native.Mathlib.Decide.{dec_le}
use native.Mathlib.Omega.{arith}
use lib.ListN.{length}
use Rattle.group.specs.Letters.{Word}
use Rattle.group.specs.Bytes.{bytes_of}
use Rattle.group.specs.Limits.{limit}
use Rattle.refusals.specs.Outcomes.{Outcome, accepted, refused, then}
use Rattle.refusals.specs.Memory.{Memory}
use Rattle.refusals.proofs.Outcomes.{accepted_refused, refused_number, refused_place}
use Rattle.fields.specs.Fields.{Bytes, head_size}
use Rattle.records.specs.Format.{encode}
use Rattle.words.specs.Recording.{judged_with}
use Rattle.registers.specs.Format.{Register, entry_base, register_bytes, number_most, live_most}
use Rattle.registers.specs.Reading.{live, number_for, read_register}
use Rattle.registers.specs.WellFormed.{WellFormed}
use Rattle.registers.proofs.WellFormed.{reads_well_formed}
use Rattle.updates.specs.Entering.{stored_form, with_entry, entered, grown, kept, answered, entered_word, entered_in}
use Rattle.updates.proofs.Fitting.{entered_full, entered_last, entered_large, entered-fits}
use Rattle.claims.specs.Refusals.{NoWordRefusal}
use Rattle.claims.specs.Registers.{Filed, Unfiled, HasFour, NoRoom, Accepted, EnterRefusal}
use Rattle.claims.specs.Registers.{of_word, not_register, holder_full, register_full}
use Rattle.claims.proofs.Refusals.{Judged, refuses, accepts, judge_word, judged↔refusal, no_refusal↔none}
use Rattle.claims.proofs.Refusals.{none_accepted, judged_accepted}
use Rattle.claims.proofs.WordCalls.{judged_within}
use Rattle.claims.proofs.RegisterRefusals.{read↔refusal}
use Rattle.claims.proofs.Filed.{none↔unfiled, number↔filed}

-- The cases of a filing.
pub data Filing (u : List ℕ) (m : Memory) (h : ℕ) (s : List ℕ) : Type 0 where
  is_refused : (n p : ℕ) → EnterRefusal u m h s n p → entered_in u m s h ≡ refused n p → Filing u m h s
  is_found : (w : Word) (q : Register) (k : ℕ) → Accepted u m s w q → judged_with u m ≡ accepted w → Filed q w k
      → entered_in u m s h ≡ accepted (kept q k) → Filing u m h s
  is_added : (w : Word) (q : Register) → Accepted u m s w q → judged_with u m ≡ accepted w → Unfiled q w
      → (HasFour h q → ⊥) → (NoRoom s q w → ⊥) → entered_in u m s h ≡ accepted (grown (with_entry q h (stored_form w)))
      → Filing u m h s

module _ (u : List ℕ) (m : Memory) (h : ℕ) (s : List ℕ) (bytes : Bytes s) where
  -- What is filed, where the word is accepted.
  with_register : (w : Word) → judged_with u m ≡ accepted w → (o : Outcome Register) → read_register s ≡ o
      → entered_in u m s h
      ≡ then o (λ y. answered (number_for (stored_form w) y.entries) y (length s) h (stored_form w))
  with_register w j o e =
      ap (λ (x : Outcome Word). then x (λ y. entered_word s h y)) j
      ∙ ap (λ (x : Outcome Register). then x (λ y. answered (number_for (stored_form w) y.entries) y (length s) h
      (stored_form w))) e

  -- And in a register, by what is found there.
  module _ (w : Word) (q : Register) (j : judged_with u m ≡ accepted w) (r : WellFormed s q) where
    short : length w ≤ limit
    short = judged_within u m w j

    by_search : (o : Option ℕ) → number_for (stored_form w) q.entries ≡ o
        → entered_in u m s h ≡ answered o q (length s) h (stored_form w)
    by_search o e =
        with_register w j (accepted q) ((reads_well_formed s q bytes).1 r)
        ∙ ap (λ (x : Option ℕ). answered x q (length s) h (stored_form w)) e

    found_so : (k : ℕ) → Filed q w k → entered_in u m s h ≡ accepted (kept q k)
    found_so k x = by_search (some k) ((number↔filed s q w r short k).1 x)

    module _ (new : Unfiled q w) where
      by_entering : (o : Outcome Register) → entered q (length s) h (stored_form w ∷ []) ≡ o
          → entered_in u m s h ≡ then o (λ y. accepted (grown y))
      by_entering o e =
          by_search none ((none↔unfiled s q w r short).1 new)
          ∙ ap (λ (x : Outcome Register). then x (λ y. accepted (grown y))) e

      full_so : HasFour h q → entered_in u m s h ≡ refused 13 0
      full_so f = by_entering (refused 13 0) (entered_full q (length s) h (stored_form w) f)

      module _ (few : HasFour h q → ⊥) where
        fewer : live h q.entries < live_most
        fewer = omega (arith, few)

        no_room_so : NoRoom s q w → entered_in u m s h ≡ refused 14 0
        no_room_so (inl a) = by_entering (refused 14 0) (entered_large q (length s) h (stored_form w) fewer a)
        no_room_so (inr a) =
            let top : number_most ≤ q.last = omega (arith, a) in
            by_entering (refused 14 0) (entered_last q (length s) h (stored_form w) fewer top)

        added_so : (NoRoom s q w → ⊥) → entered_in u m s h ≡ accepted (grown (with_entry q h (stored_form w)))
        added_so room =
            by_entering (accepted (with_entry q h (stored_form w)))
            (entered-fits q (length s) h (stored_form w) fewer (low (λ a. room (inr a))) (fits (λ a. room (inl a))))
          where
            low : (number_most < q.last + 1 → ⊥) → q.last < number_most
            low n = omega (arith, n)

            fits : (length s < length (register_bytes q) + (head_size + entry_base + length (encode (stored_form w)))
                → ⊥)
                → length (register_bytes q) + (head_size + entry_base + length (encode (stored_form w))) ≤ length s
            fits n = omega (arith, n)

  -- A refusal, by its condition.
  refusal-entered : (n p : ℕ) → EnterRefusal u m h s n p → entered_in u m s h ≡ refused n p
  refusal-entered n p (of_word c) =
      ap (λ (o : Outcome Word). then o (λ x. entered_word s h x)) ((judged↔refusal u m n p).1 c)
  refusal-entered n p (not_register c e) =
      let w = none_accepted u m ((no_refusal↔none u m).0 c) in
      with_register w.0 w.1 (refused n p) ((read↔refusal s bytes n p).1 e)
  refusal-entered n p (holder_full w q en ep a new f) =
      full_so w q (judged_accepted u m w a.accepts a.word) a.register new f ∙ sym (ap₂ refused en ep)
  refusal-entered n p (register_full w q en ep a new few x) =
      no_room_so w q (judged_accepted u m w a.accepts a.word) a.register new few x ∙ sym (ap₂ refused en ep)

  -- The cases, one test after another.
  module _ (w : Word) (q : Register) (j : judged_with u m ≡ accepted w) (a : Accepted u m s w q) where
    by_room : (new : Unfiled q w) (few : HasFour h q → ⊥)
        → Dec (length s < length (register_bytes q) + (head_size + entry_base + length (encode (stored_form w))))
        → Dec (number_most < q.last + 1) → Filing u m h s
    by_room new few (yes x) d =
        is_refused 14 0 (register_full w q refl refl a new few (inl x))
        (no_room_so w q j a.register new few (inl x))
    by_room new few (no x) (yes y) =
        is_refused 14 0 (register_full w q refl refl a new few (inr y))
        (no_room_so w q j a.register new few (inr y))
    by_room new few (no x) (no y) =
        is_added w q a j new few neither (added_so w q j a.register new few neither)
      where
        neither : NoRoom s q w → ⊥
        neither (inl z) = x z
        neither (inr z) = y z

    by_holder : Unfiled q w → Dec (HasFour h q) → Filing u m h s
    by_holder new (yes f) =
        is_refused 13 0 (holder_full w q refl refl a new f) (full_so w q j a.register new f)
    by_holder new (no f) = by_room new f (dec_le (suc (length s)) _) (dec_le (suc number_most) (q.last + 1))

    by_number : (o : Option ℕ) → number_for (stored_form w) q.entries ≡ o → Filing u m h s
    by_number (some k) e =
        let x = (number↔filed s q w a.register (judged_within u m w j) k).0 e in
        is_found w q k a j x (found_so w q j a.register k x)
    by_number none e =
        by_holder ((none↔unfiled s q w a.register (judged_within u m w j)).0 e)
        (dec_le live_most (live h q.entries))

  pub judge_filing : Filing u m h s
  judge_filing = by_word (judge_word u m)
    where
      by_register : (w : Word) → u ≡ bytes_of w → NoWordRefusal u m → judged_with u m ≡ accepted w
          → (o : Outcome Register) → read_register s ≡ o → Filing u m h s
      by_register w b c j (refused n p) e =
          is_refused n p (not_register c ((read↔refusal s bytes n p).0 e)) (with_register w j (refused n p) e)
      by_register w b c j (accepted q) e =
          let r = (reads_well_formed s q bytes).0 e in
          by_number w q j (record { accepts = c; word = b; register = r })
          (number_for (stored_form w) q.entries) refl

      by_word : Judged u m → Filing u m h s
      by_word (refuses n p c e) =
          is_refused n p (of_word c) (ap (λ (o : Outcome Word). then o (λ x. entered_word s h x)) e)
      by_word (accepts w b c j) = by_register w b c j (read_register s) refl

  pub entered↔refusal : (n p : ℕ) → (entered_in u m s h ≡ refused n p) ↔ EnterRefusal u m h s n p
  entered↔refusal n p = (from judge_filing, refusal-entered n p)
    where
      from : Filing u m h s → entered_in u m s h ≡ refused n p → EnterRefusal u m h s n p
      from (is_refused i j c e) g =
          subst (λ (k : ℕ). EnterRefusal u m h s k p) (refused_number (sym e ∙ g))
          (subst (λ (k : ℕ). EnterRefusal u m h s i k) (refused_place (sym e ∙ g)) c)
      from (is_found w q k a j x e) g = absurd (accepted_refused (sym e ∙ g))
      from (is_added w q a j new few room e) g = absurd (accepted_refused (sym e ∙ g))
