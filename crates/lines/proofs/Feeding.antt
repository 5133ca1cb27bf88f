-- The steps of `kept_line` and `take_line` (01, 'The receipt program'): one byte of a part of an input at a time. Assumes
-- nothing.
use mathlib.Core.Path.{◌≡◌, refl}
use mathlib.Core.Bool.{Bool, true, false, cond}
use mathlib.Core.List.{List, ◌∷◌}
use Prim.Native.Nat.{ℕ, ◌+◌, ◌<◌, ◌≤◌}
use borrow.Author.Tests.{eq-eqb, ne_eqb, lt-ltb, le-ltb}
use lib.Dec.{ltb}
use lib.ListN.{length, set, length-set}
use Rattle.lines.specs.Lines.{line_feed}
use Rattle.lines.specs.Feeding.{kept_line, kept_count}
use Rattle.lines.specs.inside.Taking.{take_line}

-- A byte for which there is room is kept.
pub keep_inside : (line : List ℕ) (held x : ℕ) → held < length line
    → (set line held x ≡ kept_line line held x) × (held + 1 ≡ kept_count line held)
keep_inside line held x lt = (simp (lt-ltb held (length line) lt), simp (lt-ltb held (length line) lt))

-- A byte for which there is none is not.
pub keep_outside : (line : List ℕ) (held x : ℕ) → length line ≤ held
    → (line ≡ kept_line line held x) × (held ≡ kept_count line held)
keep_outside line held x le = (simp (le-ltb held (length line) le), simp (le-ltb held (length line) le))

-- The buffer keeps its size.
pub keep_length : (line : List ℕ) (held x : ℕ) → length (kept_line line held x) ≡ length line
keep_length line held x = cases (ltb held (length line))
  where
    cases : (room : Bool) → length (cond room (set line held x) line) ≡ length line
    cases true = length-set line held x
    cases false = refl

module _ (x : ℕ) (s : List ℕ) (i : ℕ) (line : List ℕ) (held : ℕ) where
  -- A line feed ends the line.
  pub took_end : x ≡ line_feed
      → take_line (x ∷ s) i line held ≡ record { line = line; fed = record { next = i + 1; held = held; ended = true } }
  unfolding take_line
  took_end e = simp (eq-eqb x line_feed e)

  -- Any other byte is kept.
  pub took_more : (x ≡ line_feed → ⊥)
      → take_line (x ∷ s) i line held ≡ take_line s (i + 1) (kept_line line held x) (kept_count line held)
  unfolding take_line
  took_more other = simp (ne_eqb x line_feed other)
