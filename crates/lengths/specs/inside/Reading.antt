-- The classes of a tree's carets, read from the bytes of its shape in one pass. That they are the classes of the tree
-- is claimed apart from this.
--     classes_from s o l   from inside an interior subtree: o interior subtrees to come, then l carets of the left side
--     side_classes s l     from a side: the subtree that hangs there begins, l carets of the left side to come
--     shape_classes s      from the start of a shape
-- Assumes nothing.
use Rattle.std.specs.Prelude.{List, [], ◌∷◌, ℕ, zero, suc, get_or}
use Rattle.lengths.specs.Classes.{Class, on_left, on_right, inside_leaf, inside_caret}

-- The class of an interior caret, by the first byte of its right subtree.
abbrev pub inside_at : ℕ → Class
inside_at zero = inside_leaf
inside_at (suc b) = inside_caret

-- A caret of an interior subtree opens one subtree more. A leaf closes one, and the caret whose left subtree ends with
-- it is the next in order: an interior one, or, where none is open, the next of the side. Where o is 0 the right side
-- goes on: a caret begins with its left subtree, a leaf is the last.
unfoldable pub classes_from : List ℕ → (o l : ℕ) → List Class
classes_from [] o l = []
classes_from (zero ∷ s) zero l = []
classes_from (suc b ∷ s) zero l = classes_from s 1 0
classes_from (suc b ∷ s) (suc o) l = classes_from s (suc (suc o)) l
classes_from (zero ∷ s) (suc zero) zero = on_right ∷ classes_from s 0 0
classes_from (zero ∷ s) (suc zero) (suc zero) = on_left ∷ classes_from s 0 0
classes_from (zero ∷ s) (suc zero) (suc (suc l)) = on_left ∷ classes_from s 1 (suc l)
classes_from (zero ∷ s) (suc (suc o)) l = inside_at (get_or s 0 0) ∷ classes_from s (suc o) l

-- From a side: below a caret of the left side hangs its right subtree; then the right side.
abbrev pub side_classes : List ℕ → (l : ℕ) → List Class
side_classes s zero = classes_from s 0 0
side_classes s (suc l) = classes_from s 1 (suc l)

-- From the end of a subtree that hangs on a side: the caret of the side, and what follows.
abbrev pub next_on_side : List ℕ → (l : ℕ) → List Class
next_on_side s zero = on_right ∷ side_classes s 0
next_on_side s (suc l) = on_left ∷ side_classes s l

-- With o interior subtrees to come; where none is, the caret of the side is next.
abbrev pub pending_classes : List ℕ → (o l : ℕ) → List Class
pending_classes s zero l = next_on_side s l
pending_classes s (suc o) l = classes_from s (suc o) l

-- The carets in front of the first leaf are those of the left side, l of them so far; caret 0 is the last of them.
abbrev pub left_edge_classes : List ℕ → (l : ℕ) → List Class
left_edge_classes [] l = []
left_edge_classes (zero ∷ s) zero = []
left_edge_classes (zero ∷ s) (suc l) = on_left ∷ side_classes s l
left_edge_classes (suc b ∷ s) l = left_edge_classes s (suc l)

abbrev pub shape_classes : List ℕ → List Class
shape_classes s = left_edge_classes s 0
