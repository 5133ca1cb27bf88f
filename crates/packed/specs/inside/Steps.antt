-- The steps of the functions.
--     is_tree_value s    the bytes s are the shape of a tree within the bound
--     shape_of xs n      the first n nodes in the numbers xs
--     Summed xs ys n     each of the first n entries of the summary ys counts the ones of the numbers before it
--     Held xs ys n       n nodes of the numbers xs are a shape, and ys is its summary
-- Inside: no claim reaches these definitions; a reader of the claims need not believe them. Assumes nothing.
use Rattle.std.specs.Prelude.{◌≡◌, Bool, true, false, cond, List, [], ◌∷◌, ℕ, ◌+◌, ◌-◌, ◌*◌, ◌/◌, ◌%◌, ◌^◌, ◌<◌, ◌≤◌}
use Rattle.std.specs.Prelude.{ltb, length, take, get_or}
use Rattle.std.specs.Int.Count.{ones}
use Rattle.trees.specs.Pairs.{max_carets}
use Rattle.trees.specs.Shapes.{shape_size}
use Rattle.bitrows.specs.Numbers.{nodes_in}
use Rattle.bitrows.specs.Closing.{closes}
use Rattle.bitrows.specs.inside.Nodes.{Nodes}
use Rattle.packed.specs.Packing.{Packs}

-- Bytes are the shape of a tree within the bound, as a test.
abbrev pub is_tree_value : List ℕ → Bool
is_tree_value s = cond (closes s 1) (cond (ltb (shape_size max_carets) (length s)) false true) false

-- Bytes that are nodes, no more of them than a tree within the bound has.
pub record FewNodes (s : List ℕ) : Type 0 where
  pub nodes : Nodes s
  pub small : length s ≤ shape_size max_carets

-- Room for n numbers, with their summary.
pub record Room (n : ℕ) (numbers summary : List ℕ) : Type 0 where
  pub in_numbers : n ≤ length numbers
  pub in_summary : n ≤ length summary

-- The first n nodes in some numbers.
abbrev pub shape_of : List ℕ → ℕ → List ℕ
shape_of numbers n = take n (nodes_in numbers)

-- The ones of some numbers.
abbrev pub ones_in : List ℕ → ℕ
ones_in [] = 0
ones_in (x ∷ xs) = ones x + ones_in xs

-- The first n entries of the summary are right.
abbrev pub Summed : (numbers summary : List ℕ) (n : ℕ) → Type 0
Summed numbers summary n = (j : ℕ) → j < n → get_or summary j 0 ≡ ones_in (take j numbers)

-- Every number is one of 64 bits.
abbrev pub Wide : List ℕ → Type 0
Wide numbers = (j : ℕ) → get_or numbers j 0 < 2 ^ 64

-- The last of the numbers that n nodes take has no bit behind theirs.
abbrev pub Clear : (numbers : List ℕ) (n : ℕ) → Type 0
Clear numbers n = get_or numbers ((n - 1) / 64) 0 / 2 ^ ((n - 1) % 64 + 1) ≡ 0

-- So many nodes are there, some, and no tree within the bound has more.
pub record Within (numbers : List ℕ) (n : ℕ) : Type 0 where
  pub some : 0 < n
  pub there : n ≤ 64 * length numbers
  pub small : n ≤ shape_size max_carets

-- n nodes of the numbers are a shape that is packed with its summary.
pub record Held (numbers summary : List ℕ) (n : ℕ) : Type 0 where
  pub within : Within numbers n
  pub packs : Packs (shape_of numbers n) numbers summary
