-- What an accepted word tells. Assumes nothing.
use mathlib.Core.Path.{◌≡◌, refl, sym, ◌∙◌, ap}
use mathlib.Core.List.{List}
use Prim.Native.Nat.{ℕ, ◌+◌, ◌≤◌}
use lib.Dec.{ltb}
use lib.ListN.{length}
use borrow.Author.Tests.{ltb-false}
use Rattle.group.specs.Letters.{Word}
use Rattle.group.specs.Bytes.{Reading, is_word, not_letter_is, read_word}
use Rattle.group.specs.Limits.{limit}
use Rattle.refusals.specs.Outcomes.{accepted}
use Rattle.refusals.proofs.Outcomes.{accepted_refused, passed}
use Rattle.letters.specs.Judging.{judged_reading, judged}

-- What an accepted word tells.
pub record Fit (s : List ℕ) (nb na : ℕ) (w : Word) : Type 0 where
  pub short : length s ≤ limit
  pub reads : read_word s ≡ is_word w
  pub b_long : length s + 1 ≤ nb
  pub a_long : length s + 1 ≤ na

reading_fit : (s : List ℕ) (nb na : ℕ) (w : Word) (r : Reading) → length s ≤ limit → read_word s ≡ r
    → judged_reading r (length s) nb na ≡ accepted w → Fit s nb na w
reading_fit s nb na w (not_letter_is k) p e h = absurd (accepted_refused (sym h))
reading_fit s nb na w (is_word v) p e h =
    let b = passed (ltb nb (length s + 1)) 6 0 _ w h in
    let a = passed (ltb na (length s + 1)) 6 0 _ w b.1 in
    record {
      short = p;
      reads = e ∙ ap is_word (let same : v ≡ w = cc a.1 in same);
      b_long = ltb-false _ _ b.0;
      a_long = ltb-false _ _ a.0;
    }

pub accepted_fit : (s : List ℕ) (nb na : ℕ) (w : Word) → judged s nb na ≡ accepted w → Fit s nb na w
accepted_fit s nb na w e =
    let l = passed (ltb limit (length s)) 1 limit _ w e in
    reading_fit s nb na w (read_word s) (ltb-false _ _ l.0) refl l.1
