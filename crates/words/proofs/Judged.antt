-- The judgement of a word beside its tables and its buffer, and what an accepted word tells. Assumes nothing.
use mathlib.Core.Path.{◌≡◌, refl, sym, ap, ◌∙◌}
use mathlib.Core.Bool.{cond}
use mathlib.Core.List.{List}
use Prim.Native.Nat.{ℕ, ◌≤◌}
use lib.ListN.{length}
use lib.Dec.{ltb}
use borrow.Author.Tests.{le-ltb, ltb-false}
use Rattle.group.specs.Letters.{Word}
use Rattle.refusals.specs.Outcomes.{Outcome, accepted, refused, then}
use Rattle.refusals.proofs.Outcomes.{accepted_refused, passed}
use Rattle.records.specs.Format.{buffer_size}
use Rattle.letters.specs.Judging.{judged}
use Rattle.letters.proofs.Judged.{Fit, accepted_fit}
use Rattle.words.specs.Recording.{judged_record}

-- What an accepted word tells of the buffer too.
pub record RecordFit (word : List ℕ) (nb na nr : ℕ) (w : Word) : Type 0 where
  pub judged_so : judged word nb na ≡ accepted w
  pub fit : Fit word nb na w
  pub roomy : buffer_size (length word) ≤ nr

-- The buffer's test of a word.
abbrev room_for : (n nr : ℕ) → Word → Outcome Word
room_for n nr w = cond (ltb nr (buffer_size n)) (refused 7 0) (accepted w)

module _ (word : List ℕ) (nb na nr : ℕ) where
  -- By what the tables' judgement is, the buffer's.
  judged-then : (o : Outcome Word) → judged word nb na ≡ o
      → judged_record word nb na nr ≡ then o (room_for (length word) nr)
  judged-then o e = ap (λ (p : Outcome Word). then p (room_for (length word) nr)) e

  pub accepted_record : (w : Word) → judged_record word nb na nr ≡ accepted w → RecordFit word nb na nr w
  accepted_record w h = go (judged word nb na) refl h
    where
      go : (o : Outcome Word) → judged word nb na ≡ o → then o (room_for (length word) nr) ≡ accepted w
          → RecordFit word nb na nr w
      go (refused n p) e k = absurd (accepted_refused (sym k))
      go (accepted v) e k =
          let test = passed (ltb nr (buffer_size (length word))) 7 0 (accepted v) w k in
          let so : judged word nb na ≡ accepted w = e ∙ test.1 in
          record {
            judged_so = so;
            fit = accepted_fit word nb na w so;
            roomy = ltb-false nr (buffer_size (length word)) test.0;
          }

  -- Where the buffer has room, the tables' judgement stands.
  pub judged_roomy : buffer_size (length word) ≤ nr → judged_record word nb na nr ≡ judged word nb na
  judged_roomy le = go (judged word nb na) refl
    where
      go : (o : Outcome Word) → judged word nb na ≡ o → judged_record word nb na nr ≡ judged word nb na
      go (refused n p) e = judged-then (refused n p) e ∙ sym e
      go (accepted w) e =
          judged-then (accepted w) e ∙ simp (le-ltb nr (buffer_size (length word)) le) (sym e)
