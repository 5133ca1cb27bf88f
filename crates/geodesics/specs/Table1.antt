-- Table 1 of 001 and its sum over a pair of trees (001, section 2; 02, [5]).
--     table1 x y      the weight of a column: the label of a caret of T− over that of the same caret of T+
--     table_sum xs ys  the sum over the columns, the trailing columns that are R over R dropped
--     label_length     the sum over the labels of two trees
-- Assumes nothing.
use Rattle.std.specs.Prelude.{Bool, true, false, cond, List, [], ◌∷◌, ℕ, ◌+◌}
use Rattle.trees.specs.Trees.{Tree}
use Rattle.lengths.specs.Labels.{Label, 'I, 'N, 'L, 'R, 'X, labels}

-- A row of Table 1, its columns in the order I, N, L, R, X.
abbrev pub in_table : (i n l r x : ℕ) → Label → ℕ
in_table i n l r x 'I = i
in_table i n l r x 'N = n
in_table i n l r x 'L = l
in_table i n l r x 'R = r
in_table i n l r x 'X = x

-- Table 1.
abbrev pub table1 : Label → Label → ℕ
table1 'I = in_table 2 4 2 1 3
table1 'N = in_table 4 4 2 3 3
table1 'L = in_table 2 2 2 1 1
table1 'R = in_table 1 3 1 2 2
table1 'X = in_table 3 3 1 2 2

-- The label is R.
abbrev pub is_r : Label → Bool
is_r 'I = false
is_r 'N = false
is_r 'L = false
is_r 'R = true
is_r 'X = false

-- All columns are R over R.
abbrev pub all_r : List Label → List Label → Bool
all_r [] ys = true
all_r (x ∷ xs) [] = true
all_r (x ∷ xs) (y ∷ ys) = cond (is_r x) (cond (is_r y) (all_r xs ys) false) false

-- The sum of Table 1 over the columns; from where all are R over R, they are dropped.
abbrev pub table_sum : List Label → List Label → ℕ
table_sum [] ys = 0
table_sum (x ∷ xs) [] = 0
table_sum (x ∷ xs) (y ∷ ys) = cond (all_r (x ∷ xs) (y ∷ ys)) 0 (table1 x y + table_sum xs ys)

-- The sum of a pair of trees.
abbrev pub label_length : Tree → Tree → ℕ
label_length t s = table_sum (labels t) (labels s)
