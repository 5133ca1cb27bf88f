-- The exponents of the leaves of a tree (000, definition 2.7; 01, 'The tree pair and the length').
--     UpFrom u k           k left edges go up from u and do not reach the right side
--     LeafExponent u e     the exponent of the leaf at u is e      HasExponents t e   leaf k has the exponent e k
-- Assumes nothing.
use Rattle.std.specs.Prelude.{◌≡◌, [], ◌∷◌, ◌++◌, ◌⊎◌, ℕ, zero, suc, ◌<◌, ◌≤◌}
use Rattle.group.specs.Points.{𝟎, 𝟏}
use Rattle.trees.specs.Trees.{Tree, carets, Address, IsLeaf, RightSide}

-- k left edges, one below the other.
abbrev pub left_edges : ℕ → Address
left_edges zero = []
left_edges (suc k) = 𝟎 ∷ left_edges k

-- k right edges, one below the other.
abbrev pub right_edges : ℕ → Address
right_edges zero = []
right_edges (suc k) = 𝟏 ∷ right_edges k

-- A path of k left edges goes up from u and does not reach the right side of the tree, on which the root counts: it has
-- no edge, or it ends at an address v off the right side.
abbrev pub UpFrom : Address → ℕ → Type 0
UpFrom u k = (k ≡ 0) ⊎ ((v : Address) × (u ≡ v ++ left_edges k) × (RightSide v → ⊥))

-- The exponent of a leaf: the length of the longest such path. The edge that reaches the right side is not counted.
pub record LeafExponent (u : Address) (e : ℕ) : Type 0 where
  pub path : UpFrom u e
  pub longest : (k : ℕ) → UpFrom u k → k ≤ e

-- Leaf k has the exponent e k, for every leaf, and the exponents behind the last leaf are 0.
pub record HasExponents (t : Tree) (e : ℕ → ℕ) : Type 0 where
  pub at_leaf : (k : ℕ) (u : Address) → IsLeaf t k u → LeafExponent u (e k)
  pub behind_last : (k : ℕ) → carets t < k → e k ≡ 0
