-- Table 1 of 001 as the constant of the code has it. Assumes nothing.
--     number_of x       the row and the column of a label, in the order I, N, L, R, X
--     label_entry i j   the entry in a row and a column
use Rattle.std.specs.Prelude.{List, [], ◌∷◌, ℕ, get_or}
use Rattle.lengths.specs.Labels.{Label, 'I, 'N, 'L, 'R, 'X}

-- The row and the column of a label.
abbrev pub number_of : Label → ℕ
number_of 'I = 0
number_of 'N = 1
number_of 'L = 2
number_of 'R = 3
number_of 'X = 4

-- The constant table of the code, and its entry in a row and a column.
abbrev pub label_table : List (List ℕ)
label_table =
    (2 ∷ 4 ∷ 2 ∷ 1 ∷ 3 ∷ [])
    ∷ (4 ∷ 4 ∷ 2 ∷ 3 ∷ 3 ∷ [])
    ∷ (2 ∷ 2 ∷ 2 ∷ 1 ∷ 1 ∷ [])
    ∷ (1 ∷ 3 ∷ 1 ∷ 2 ∷ 2 ∷ [])
    ∷ (3 ∷ 3 ∷ 1 ∷ 2 ∷ 2 ∷ [])
    ∷ []

abbrev pub label_entry : (row column : ℕ) → ℕ
label_entry i j = get_or (get_or label_table i []) j 0
