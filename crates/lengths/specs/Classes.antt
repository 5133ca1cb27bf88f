-- The one reading of a tree: the class of each caret, from left to right (01, 'The tree pair and the length'). Both the
-- seven kinds and the five labels of 001, Table 1, are functions of it.
--     on_left        on the left side, the root included      inside_leaf    interior, with a leaf as right child
--     on_right       on the right side, without the root      inside_caret   any other interior caret
-- Assumes nothing.
use Rattle.std.specs.Prelude.{List, [], ◌∷◌, ◌++◌}
use Rattle.trees.specs.Trees.{Tree, leaf, caret}

-- The class of a caret.
pub data Class : Type 0 where
  on_left on_right inside_leaf inside_caret : Class

-- The class of an interior caret, by its right child.
abbrev pub inside_over : Tree → Class
inside_over leaf = inside_leaf
inside_over (caret l r) = inside_caret

-- The carets of an interior subtree.
abbrev pub inside_classes : Tree → List Class
inside_classes leaf = []
inside_classes (caret l r) = inside_classes l ++ (inside_over r ∷ inside_classes r)

-- The carets of a subtree whose top is on the left side.
abbrev pub left_classes : Tree → List Class
left_classes leaf = []
left_classes (caret l r) = left_classes l ++ (on_left ∷ inside_classes r)

-- The carets of a subtree whose top is on the right side.
abbrev pub right_classes : Tree → List Class
right_classes leaf = []
right_classes (caret l r) = inside_classes l ++ (on_right ∷ right_classes r)

-- The carets of a tree; the root is on the left side.
abbrev pub classes : Tree → List Class
classes leaf = []
classes (caret l r) = left_classes l ++ (on_left ∷ right_classes r)
