-- The steps of growing a caret.
--     HeldLeaf xs ys n k     a packed shape has a leaf k             HoldsLeaf ys n k r    number r holds it
--     Growable, GrewAt       what putting two nodes in front of a leaf asks, and what it leaves
-- Inside: no claim reaches these definitions; a reader of the claims need not believe them. Assumes nothing.
use Rattle.std.specs.Prelude.{◌≡◌, List, ℕ, ◌+◌, ◌*◌, ◌<◌, ◌≤◌, get_or}
use Rattle.lists.specs.Entries.{total}
use Rattle.lists.specs.Tables.{filled}
use Rattle.bitrows.specs.Numbers.{number_at, numbers_of_value}
use Rattle.bitrows.specs.inside.Growth.{inserted}
use Rattle.packed.specs.Packing.{summary_at}
use Rattle.packed.specs.inside.Steps.{shape_of, Room, Held}

-- Such a shape has a leaf k.
pub record HeldLeaf (numbers summary : List ℕ) (n k : ℕ) : Type 0 where
  pub held : Held numbers summary n
  pub has_leaf : k + total (shape_of numbers n) < n

-- What growing asks: node v is a leaf, and there is room for two nodes more.
pub record Growable (numbers summary : List ℕ) (n v : ℕ) : Type 0 where
  pub held : Held numbers summary n
  pub inside : v < n
  pub is_leaf : get_or (shape_of numbers n) v 0 ≡ 0
  pub room : Room (numbers_of_value (n + 2)) numbers summary

-- What growing leaves.
pub record GrewAt (numbers summary : List ℕ) (n v : ℕ) (numbers' summary' : List ℕ) : Type 0 where
  pub numbers_left :
      numbers' ≡ filled (numbers_of_value (n + 2)) (number_at (inserted (shape_of numbers n) v)) numbers
  pub summary_left :
      summary' ≡ filled (numbers_of_value (n + 2)) (summary_at (inserted (shape_of numbers n) v)) summary

-- The number r holds leaf k: before it stand 64 r nodes less their carets.
pub record HoldsLeaf (summary : List ℕ) (n k r : ℕ) : Type 0 where
  pub inside : r < n
  pub before : 64 * r ≤ k + get_or summary r 0
  pub next : r + 1 < n → k + get_or summary (r + 1) 0 < 64 * (r + 1)

-- No entry of the summary counts more carets than there are nodes before.
abbrev pub Few : (summary : List ℕ) (n : ℕ) → Type 0
Few summary n = (j : ℕ) → j < n → get_or summary j 0 ≤ 64 * j
