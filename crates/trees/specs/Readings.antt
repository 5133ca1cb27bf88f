-- The exponents of a tree, read subtree by subtree. That they are those of 000, definition 2.7, is proved in Exponents.
--     left_edge t   the left edges from the first leaf of a subtree up to its root
--     later t      the exponents of the leaves of an interior subtree behind its first
--     exponents_of  those of all leaves of a tree, or of a subtree on the right side
-- Assumes nothing.
use Rattle.std.specs.Prelude.{List, [], ◌∷◌, ◌++◌, ℕ, suc}
use Rattle.trees.specs.Trees.{Tree, leaf, caret}

abbrev pub left_edge : Tree → ℕ
left_edge leaf = 0
left_edge (caret l r) = suc (left_edge l)

abbrev pub later : Tree → List ℕ
later leaf = []
later (caret l r) = later l ++ (left_edge r ∷ later r)

abbrev pub exponents_of : Tree → List ℕ
exponents_of leaf = 0 ∷ []
exponents_of (caret l r) = left_edge l ∷ (later l ++ exponents_of r)
