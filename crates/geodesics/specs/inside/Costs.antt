-- The sum of Table 1 over the columns of two rows, and rows that are closed.
--     row_label r      the label of the caret of a row
--     column x y s    the weight of the column x over y with those behind it, which weigh s
--     cost n u v      the sum over n columns, the labels of the row u over those of v
--     remaining n r   what is still open or to come behind n carets; Closed n r: nothing
-- Inside: no claim reaches these definitions; a reader of the claims need not believe them. Assumes nothing.
use Rattle.std.specs.Prelude.{◌≡◌, ℕ, zero, suc, ◌+◌}
use Rattle.lists.specs.Entries.{total}
use Rattle.lengths.specs.Labels.{Label, 'I, 'N, 'L, 'R, 'X}
use Rattle.geodesics.specs.Rows.{first, Row, row, next_row}
use Rattle.geodesics.specs.Table1.{table1}

-- The label of a caret of the right side, by the exponent of the next leaf: X where a caret opens, else R.
abbrev pub side_label : ℕ → Label
side_label zero = 'R
side_label (suc e) = 'X

-- The label of an interior caret: N where a caret opens behind it, else I.
abbrev pub inside_label : ℕ → Label
inside_label zero = 'I
inside_label (suc e) = 'N

-- The label of a caret, by the two counters and the exponent of the leaf behind it.
abbrev pub label_by : ℕ → ℕ → ℕ → Label
label_by zero zero e = side_label e
label_by zero (suc l) e = 'L
label_by (suc s) l e = inside_label e

-- The label of the caret.
abbrev pub row_label : Row → Label
row_label (row s l es) = label_by s l (first es)

-- A column in front of columns that weigh s; behind R over R with s = 0 all are R over R, and are dropped with it.
abbrev pub column : Label → Label → ℕ → ℕ
column 'I y s = table1 'I y + s
column 'N y s = table1 'N y + s
column 'L y s = table1 'L y + s
column 'X y s = table1 'X y + s
column 'R 'I s = table1 'R 'I + s
column 'R 'N s = table1 'R 'N + s
column 'R 'L s = table1 'R 'L + s
column 'R 'X s = table1 'R 'X + s
column 'R 'R zero = zero
column 'R 'R (suc s) = table1 'R 'R + suc s

-- The sum over n columns.
abbrev pub cost : ℕ → Row → Row → ℕ
cost zero u v = zero
cost (suc n) u v = column (row_label u) (row_label v) (cost n (next_row u) (next_row v))

-- What is open or to come behind n carets.
abbrev pub remaining : ℕ → Row → ℕ
remaining zero (row s l es) = s + (l + total es)
remaining (suc n) r = remaining n (next_row r)

-- Nothing is.
abbrev pub Closed : ℕ → Row → Type 0
Closed n r = remaining n r ≡ 0
