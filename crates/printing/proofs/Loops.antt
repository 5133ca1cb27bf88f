-- A loop over a list that writes, element by element, what a function of lists says of the whole. Assumes nothing.
use mathlib.Core.Path.{◌≡◌, ap, ◌∙◌}
use mathlib.Core.List.{List, [], ◌∷◌, ◌++◌}
use Prim.Native.Nat.{ℕ, ◌+◌, ◌<◌, ◌≤◌}
use native.Mathlib.Numerals.{add-one}
use native.Mathlib.Omega.{arith}
use lib.ListN.{length, get_or, drop, drop_of_length-le}
use lib.Seq.{drop-cons}
use Rattle.lists.specs.inside.Writes.{Wrote, Writing}
use Rattle.lists.proofs.Writes.{write_start, write_more, writing_same, write_done, writing_length}

-- What the first i elements give is written.
pub record Passing (f : List ℕ → List ℕ) (s now : List ℕ) (end i : ℕ) (entry : List ℕ) (at : ℕ) : Type 0 where
  pub inside : i ≤ length s
  pub left : Writing (f (drop i s)) now end (f s) entry at

-- Before the first element.
pub pass_start : (f : List ℕ → List ℕ) (s entry : List ℕ) (at : ℕ) → Passing f s entry at 0 entry at
pass_start f s entry at = record { inside = omega arith; left = write_start _ _ _ }

-- The element of a turn, and those behind it.
pass_next : (s : List ℕ) (i : ℕ) → i < length s → drop i s ≡ get_or s i 0 ∷ drop (i + 1) s
pass_next s i h = rw add-one (drop-cons s i 0 h)

module _ {f : List ℕ → List ℕ} {s now entry : List ℕ} {end i at : ℕ} (p : Passing f s now end i entry at) where
  -- The buffer keeps its size.
  pub pass_length : length now ≡ length entry
  pass_length = writing_length p.left

  -- One element more.
  pub pass_more : {now' : List ℕ} {end' : ℕ} (a : List ℕ) → i < length s
      → f (get_or s i 0 ∷ drop (i + 1) s) ≡ a ++ f (drop (i + 1) s) → Wrote a now end now' end'
      → Passing f s now' end' (i + 1) entry at
  pass_more a h e w = record {
    inside = omega arith;
    left = write_more w (writing_same (ap f (pass_next s i h) ∙ e) p.left);
  }

  -- All elements.
  pub pass_done : length s ≤ i → f [] ≡ [] → Wrote (f s) entry at now end
  pass_done h e = write_done (writing_same (ap f (drop_of_length-le s h) ∙ e) p.left)
