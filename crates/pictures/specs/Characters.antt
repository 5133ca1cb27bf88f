-- The picture of a tree pair in characters. Leaf k stands in column 2k; the rows above the leaves are counted from 1. A
-- caret over the leaves i to j has a stroke up to the right from leaf i, and one up to the left from leaf j: in row h,
-- for h from 1 to j - i, in the columns 2i + h - 1 and 2j - h.
--     cell_of ss h c    what stands in column c of row h       row_of ss n h        row h
--     rows_of ss n h    the rows from h down to the leaves     number_rows n        the numbers of the leaves
--     kinds_line ks     the kinds of the carets                characters_of t s len   the picture of a pair
-- Assumes nothing.
use Rattle.std.specs.Prelude.{cond, List, [], ◌∷◌, ◌++◌, ℕ, zero, suc, ◌+◌, ◌-◌, ◌*◌, ◌/◌, ◌%◌, eqb, ltb, leb}
use Rattle.numerals.specs.Decimals.{ascii}
use Rattle.trees.specs.Trees.{Tree, carets}
use Rattle.lengths.specs.Kinds.{Kind, kinds}
use Rattle.pictures.specs.Spans.{Span, width, spans}
use Rattle.pictures.specs.Texts.{filled, kind_name}

-- A space, `/` and `\`.
abbrev pub space : ℕ
space = 32

abbrev pub upward : ℕ
upward = 47

abbrev pub downward : ℕ
downward = 92

-- What a caret shows in column c of row h.
abbrev pub stroke_of : Span → (h c : ℕ) → ℕ
stroke_of s h c =
    cond (ltb (width s) h) space
    (cond (eqb (c + 1) (2 * s.first + h)) upward (cond (eqb (c + h) (2 * s.last)) downward space))

-- The first sign that is no space.
abbrev pub first_sign : ℕ → ℕ → ℕ
first_sign x y = cond (eqb x space) y x

-- What carets show in column c of row h.
abbrev pub cell_of : List Span → (h c : ℕ) → ℕ
cell_of [] h c = space
cell_of (s ∷ ss) h c = first_sign (stroke_of s h c) (cell_of ss h c)

-- m columns of a row, from column c on, and the end of the line.
abbrev pub cells_from : List Span → (h c m : ℕ) → List ℕ
cells_from ss h c zero = ascii "\n"
cells_from ss h c (suc m) = cell_of ss h c ∷ cells_from ss h (suc c) m

-- Row h of a tree with n carets: up to column 2n - h.
abbrev pub row_of : List Span → (n h : ℕ) → List ℕ
row_of ss n h = cells_from ss h 0 (2 * n + 1 - h)

-- The digit of k at a place, 1, 10 or 100; none in front of the first.
abbrev pub digit_of : (place k : ℕ) → ℕ
digit_of place k = cond (leb place k) (48 + k / place % 10) (cond (eqb place 1) 48 space)

-- What stands in a column below the leaves.
abbrev pub digit_cell : (place c : ℕ) → ℕ
digit_cell place c = cond (eqb (c % 2) 0) (digit_of place (c / 2)) space

-- m columns below the leaves, from column c on, and the end of the line.
abbrev pub digits_from : (place c m : ℕ) → List ℕ
digits_from place c zero = ascii "\n"
digits_from place c (suc m) = digit_cell place c ∷ digits_from place (suc c) m

-- The digits of the numbers 0 to n at a place.
abbrev pub digit_row : (n place : ℕ) → List ℕ
digit_row n place = digits_from place 0 (2 * n + 1)

-- The tens, if any, and the units.
unfoldable pub tens_rows : ℕ → List ℕ
tens_rows n = cond (ltb n 10) (digit_row n 1) (digit_row n 10 ++ digit_row n 1)

-- The numbers 0 to n, digit below digit.
unfoldable pub number_rows : ℕ → List ℕ
number_rows n = cond (ltb n 100) (tens_rows n) (digit_row n 100 ++ tens_rows n)

-- The rows from h down, and the numbers of the leaves.
abbrev pub rows_of : List Span → (n h : ℕ) → List ℕ
rows_of ss n zero = number_rows n
rows_of ss n (suc h) = row_of ss n (suc h) ++ rows_of ss n h

-- Kinds, a space in front of each, and the end of the line.
abbrev pub later_line : List Kind → List ℕ
later_line [] = ascii "\n"
later_line (k ∷ ks) = (space ∷ kind_name k) ++ later_line ks

-- Kinds, a space between them, and the end of the line.
abbrev pub kinds_line : List Kind → List ℕ
kinds_line [] = ascii "\n"
kinds_line (k ∷ ks) = kind_name k ++ later_line ks

-- Spans with their kinds and n + 1 leaves, below a head.
unfoldable pub spans_characters : (n : ℕ) → List Span → List Kind → (head : List ℕ) → List ℕ
spans_characters n ss ks head = head ++ (rows_of ss n n ++ kinds_line ks)

-- A tree below its head.
abbrev pub tree_characters : Tree → (head : List ℕ) → List ℕ
tree_characters t head = spans_characters (carets t) (spans t) (kinds t) head

-- The numbers of the pair.
unfoldable pub foot_characters : (n length : ℕ) → List ℕ
foot_characters n length = filled (ascii "\nN = ~, length = ~\n") (n ∷ length ∷ [])

-- The picture of the pair of T- and T+ with a length: T- above T+.
unfoldable pub characters_of : (t s : Tree) (length : ℕ) → List ℕ
characters_of t s length =
    tree_characters t (ascii "T-\n")
    ++ (tree_characters s (ascii "\nT+\n") ++ foot_characters (carets t) length)
