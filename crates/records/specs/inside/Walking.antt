-- The walk over the entries of both fields, side by side: what it looks at, and what it asks.
-- Inside: no claim reaches these definitions; a reader of the claims need not believe them. Assumes nothing.
use Rattle.std.specs.Prelude.{Bool, false, not, cond, List, [], ◌∷◌, ℕ, ◌+◌, ◌-◌, ◌*◌, ◌≤◌, length, eqb, ltb}
use Rattle.records.specs.declared.walk.Place.{Place}
use Rattle.records.specs.Format.{Power, power}
use Rattle.records.specs.Reading.{entries_at}
use Rattle.records.specs.inside.Steps.{Proper}

-- The powers of the entries from a place on.
abbrev pub left_at : List ℕ → Place → List Power
left_at s p = entries_at s p.at p.left

-- The place behind an entry.
abbrev pub behind : Place → Place
behind p = record { at = p.at + 4; left = p.left - 1 }

-- An entry is passed where its index is not above that of the other side.
abbrev pub passed_by : Place → (index other : ℕ) → Place
passed_by p index other = cond (ltb other index) p (behind p)

-- The first of some powers has an index.
abbrev pub starts : ℕ → List Power → Bool
starts k [] = false
starts k (power i e ∷ ps) = eqb i k

abbrev pub starts_at : List ℕ → Place → ℕ → Bool
starts_at s p k = starts k (left_at s p)

-- Both sides have an index, and neither goes on with the next.
abbrev pub breaks_at : List ℕ → (p q : Place) (index other : ℕ) → Bool
breaks_at s p q index other =
    cond (eqb index other) (cond (starts_at s p (index + 1)) false (not (starts_at s q (index + 1)))) false

-- The entries from a place on stand in the bytes.
pub record Inside (s : List ℕ) (p : Place) : Type 0 where
  pub within : p.at + 4 * p.left ≤ length s

-- Those of both places do, and they are proper.
pub record Walkable (s : List ℕ) (b a : Place) : Type 0 where
  pub b_inside : Inside s b
  pub a_inside : Inside s a
  pub b_proper : Proper 0 (left_at s b)
  pub a_proper : Proper 0 (left_at s a)
