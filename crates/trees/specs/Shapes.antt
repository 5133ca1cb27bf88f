-- The shape of a tree in bytes (01, 'The tree pair and the length'): node before left subtree before right subtree,
-- byte value 1 for a caret and 0 for a leaf.
--     shape t         the bytes            nodes t         addresses by number
--     subtree_end_value s k  where the subtree of node k ends
-- Assumes nothing.
use Rattle.std.specs.Prelude.{List, [], ◌∷◌, ◌++◌, ℕ, zero, suc, ◌+◌, ◌*◌, drop}
use Rattle.lists.specs.Entries.{At}
use Rattle.group.specs.Points.{𝟎, 𝟏}
use Rattle.trees.specs.Trees.{Tree, leaf, caret, Address, below}

-- The bytes of a tree.
abbrev pub shape : Tree → List ℕ
shape leaf = 0 ∷ []
shape (caret l r) = 1 ∷ (shape l ++ shape r)

-- The bytes of a shape with n carets.
abbrev pub shape_size : ℕ → ℕ
shape_size n = 2 * n + 1

-- The addresses of the nodes, in the order of the shape.
abbrev pub nodes : Tree → List Address
nodes leaf = [] ∷ []
nodes (caret l r) = [] ∷ (below 𝟎 (nodes l) ++ below 𝟏 (nodes r))

-- Node k of the shape, counted from 0, is at the address u.
abbrev pub Node : Tree → ℕ → Address → Type 0
Node t k u = At (nodes t) k u

-- The number of bytes of the next n subtrees.
abbrev pub span : List ℕ → ℕ → ℕ
span [] n = 0
span (b ∷ s) zero = 0
span (zero ∷ s) (suc n) = suc (span s n)
span (suc b ∷ s) (suc n) = suc (span s (suc (suc n)))

-- The number just behind the last node of the subtree of node k.
abbrev pub subtree_end_value : List ℕ → ℕ → ℕ
subtree_end_value s k = k + span (drop k s) 1
