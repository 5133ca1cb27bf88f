-- The tree with a number of carets and given exponents (01, 'The tree pair and the length').
--     needed i es    the carets that the exponents e_i, e_(i+1), … need         tree_of n es   the tree
-- This is how the tree is worked out; that it is the tree with these exponents is claimed apart from this.
-- Assumes nothing.
use Rattle.std.specs.Prelude.{List, [], ◌∷◌, ℕ, zero, suc, ◌+◌, ◌-◌, max}
use Rattle.lists.specs.Entries.{total}
use Rattle.trees.specs.Trees.{Tree, leaf, caret}

-- The least number of carets above i + e_i + e_(i+1) + … + e_n for each e_i above 0, the first index being i.
abbrev pub needed : ℕ → List ℕ → ℕ
needed i [] = 0
needed i (zero ∷ es) = needed (suc i) es
needed i (suc e ∷ es) = max (suc (i + (suc e + total es))) (needed (suc i) es)

-- A row of trees has single leaves behind its last.
abbrev pub first_tree : List Tree → Tree
first_tree [] = leaf
first_tree (t ∷ ts) = t

abbrev pub later_trees : List Tree → List Tree
later_trees [] = []
later_trees (t ∷ ts) = ts

-- e carets over a tree, one above the other, each with the next tree of the row as its right subtree.
abbrev pub grow : ℕ → Tree → List Tree → List Tree
grow zero t ts = t ∷ ts
grow (suc e) t ts = grow e (caret t (first_tree ts)) (later_trees ts)

-- The row of trees whose leaves have the exponents.
abbrev pub row_of : List ℕ → List Tree
row_of [] = []
row_of (e ∷ es) = grow e leaf (row_of es)

-- A right side of n carets, with the trees of the row as their left subtrees.
abbrev pub over_row : ℕ → List Tree → Tree
over_row zero ts = leaf
over_row (suc n) ts = caret (first_tree ts) (over_row n (later_trees ts))

-- The tree with n carets and the exponents: those carets that no exponent counts are the right side.
abbrev pub tree_of : ℕ → List ℕ → Tree
tree_of n es = over_row (n - total es) (row_of es)
