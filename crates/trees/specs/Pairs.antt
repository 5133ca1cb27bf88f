-- The tree pair of a form (01, 'The tree pair and the length'; 000, section 2.5).
--     carets_of f              N                     Pair f t s           t and s are of one size, with a and b
--     minus_tree f, plus_tree f T− and T+             SmallestPair f t s   no such pair has fewer carets
--     Redundant t s           a redundant caret     SendsLeaves f t s    the form's map, leaf by leaf
-- Assumes nothing.
use Rattle.std.specs.Prelude.{◌≡◌, List, [], ◌∷◌, ◌++◌, ℕ, suc, ◌+◌, ◌*◌, ◌≤◌, max}
use Rattle.group.specs.Points.{Digit, 𝟎, 𝟏, below1, SamePoint}
use Rattle.group.specs.Maps.{map_of}
use Rattle.group.specs.Forms.{b_side, a_side, Form, exponent, exponents, letters}
use Rattle.group.specs.Limits.{limit}
use Rattle.trees.specs.Trees.{Tree, carets, Address, IsLeaf}
use Rattle.trees.specs.Exponents.{HasExponents}
use Rattle.trees.specs.Building.{needed, tree_of}

-- The carets that two sides' exponents need, the same number for both.
abbrev pub carets_of_sides : (b a : List ℕ) → ℕ
carets_of_sides b a = max (needed 0 b) (needed 0 a)

-- N of a form.
abbrev pub carets_of : Form → ℕ
carets_of f = carets_of_sides (exponents b_side f) (exponents a_side f)

-- N of a form within the limits never exceeds this: 8,193.
abbrev pub max_carets : ℕ
max_carets = 2 * limit + 1

-- T− has the exponents a, T+ the exponents b.
abbrev pub minus_tree : Form → Tree
minus_tree f = tree_of (carets_of f) (exponents a_side f)

abbrev pub plus_tree : Form → Tree
plus_tree f = tree_of (carets_of f) (exponents b_side f)

-- Two trees of one size with the exponents of a form.
pub record Pair (f : Form) (t s : Tree) : Type 0 where
  pub same_size : carets t ≡ carets s
  pub a_exponents : HasExponents t (exponent a_side f)
  pub b_exponents : HasExponents s (exponent b_side f)

-- Such a pair, with the smallest possible number of carets.
pub record SmallestPair (f : Form) (t s : Tree) : Type 0 where
  pub pair : Pair f t s
  pub smallest : (t' s' : Tree) → Pair f t' s' → carets t ≤ carets t'

-- Leaves i and i + 1 are the two leaves of one caret.
pub record Exposed (t : Tree) (i : ℕ) : Type 0 where
  pub top : Address
  pub left : IsLeaf t i (top ++ (𝟎 ∷ []))
  pub right : IsLeaf t (suc i) (top ++ (𝟏 ∷ []))

-- A caret of the pair is redundant: its leaves have the same numbers in both trees (000, definitions 2.4 and 2.5).
pub record Redundant (t s : Tree) : Type 0 where
  pub number : ℕ
  pub in_minus : Exposed t number
  pub in_plus : Exposed s number

-- The form's map sends leaf k of the one tree to leaf k of the other: the address in front of a point's digits is
-- replaced and the digits behind it stay.
abbrev pub SendsLeaves : Form → Tree → Tree → Type 0
SendsLeaves f t s =
    (k : ℕ) (u v : Address) → IsLeaf t k u → IsLeaf s k v → (r : List Digit)
    → SamePoint (map_of (letters f) (below1 (u ++ r))) (below1 (v ++ r))

-- A point below 1 lies in a leaf: its digits, with zeros behind, begin with the leaf's address.
pub record InLeaf (t : Tree) (p : List Digit) : Type 0 where
  pub number : ℕ
  pub address : Address
  pub rest : List Digit
  pub is_leaf : IsLeaf t number address
  pub same : SamePoint (below1 p) (below1 (address ++ rest))
