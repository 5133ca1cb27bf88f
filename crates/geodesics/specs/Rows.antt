-- The classes of a tree's carets by two counters, from the exponents of its leaves alone (000, definition 2.7; 001,
-- section 2). Caret k stands between the leaves k and k + 1. That these are the classes of the tree's one reading is
-- claimed apart from this.
--     row s l es       at a caret: s interior subtrees are open over it, l carets of the left side are to come at or
--                      behind it, es are the exponents of the leaves behind it
--     next_row r        the row at the next caret          row_classes n r   the classes of n carets from there on
--     from_one_lem es       the row at caret 1 of the tree with the exponents
-- Assumes nothing.
use Rattle.std.specs.Prelude.{List, [], ◌∷◌, ℕ, zero, suc, ◌+◌}
use Rattle.lengths.specs.Classes.{Class, on_left, on_right, inside_leaf, inside_caret}

-- The first entry, and the entries behind it; zeros stand behind the last.
abbrev pub first : List ℕ → ℕ
first [] = zero
first (e ∷ es) = e

abbrev pub rest : List ℕ → List ℕ
rest [] = []
rest (e ∷ es) = es

-- The two counters at a caret, and the exponents behind it.
pub data Row : Type 0 where
  row : ℕ → ℕ → List ℕ → Row

-- The class of an interior caret, by the exponent of the leaf behind it: above 0, a caret opens there.
abbrev pub inside_by : ℕ → Class
inside_by zero = inside_leaf
inside_by (suc e) = inside_caret

-- The class of a caret, by the two counters and the exponent of the leaf behind it.
abbrev pub class_by : ℕ → ℕ → ℕ → Class
class_by zero zero e = on_right
class_by zero (suc l) e = on_left
class_by (suc s) l e = inside_by e

-- The class of the caret.
abbrev pub row_class : Row → Class
row_class (row s l es) = class_by s l (first es)

-- The counters at the next caret: each caret closes one of what is open or to come, the exponent opens as many.
abbrev pub next_open : ℕ → ℕ → ℕ
next_open zero e = e
next_open (suc s) e = e + s

abbrev pub next_left : ℕ → ℕ → ℕ
next_left zero zero = zero
next_left zero (suc l) = l
next_left (suc s) l = l

-- The row at the next caret.
abbrev pub next_row : Row → Row
next_row (row s l es) = row (next_open s (first es)) (next_left s l) (rest es)

-- The classes of n carets.
abbrev pub row_classes : ℕ → Row → List Class
row_classes zero r = []
row_classes (suc n) r = row_class r ∷ row_classes n (next_row r)

-- The row at caret 1 of the tree with the exponents.
abbrev pub from_one : List ℕ → Row
from_one es = row (first (rest es)) (first es) (rest (rest es))
