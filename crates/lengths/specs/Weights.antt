-- The weights of pairs of carets and the length (01, 'The tree pair and the length'; 000, section 3.1).
--     weight x y   the weight of a caret of kind x of T− with one of kind y of T+
--     table        the same table as the constant of the code has it; table_entry, its entries by row and column
--     pair_length   the length of a pair of trees          form_length   the length of a form
-- Assumes nothing.
use Rattle.std.specs.Prelude.{List, [], ◌∷◌, ℕ, ◌+◌, get_or}
use Rattle.group.specs.Forms.{Form}
use Rattle.trees.specs.Trees.{Tree}
use Rattle.trees.specs.Pairs.{minus_tree, plus_tree}
use Rattle.lengths.specs.Kinds.{Kind, L0, LL, RI, RN, R0, I0, IR, kinds}

-- A row of Fordham's table, its columns in the order R0, RN, RI, LL, I0, IR. L0 has no column: it meets only L0.
abbrev pub in_row : (r0 rn ri ll i0 ir : ℕ) → Kind → ℕ
in_row r0 rn ri ll i0 ir L0 = 0
in_row r0 rn ri ll i0 ir R0 = r0
in_row r0 rn ri ll i0 ir RN = rn
in_row r0 rn ri ll i0 ir RI = ri
in_row r0 rn ri ll i0 ir LL = ll
in_row r0 rn ri ll i0 ir I0 = i0
in_row r0 rn ri ll i0 ir IR = ir

-- Fordham's table; L0 weighs 0.
abbrev pub weight : Kind → Kind → ℕ
weight L0 = in_row 0 0 0 0 0 0
weight R0 = in_row 0 2 2 1 1 3
weight RN = in_row 2 2 2 1 1 3
weight RI = in_row 2 2 2 1 3 3
weight LL = in_row 1 1 1 2 2 2
weight I0 = in_row 1 1 3 2 2 4
weight IR = in_row 3 3 3 2 4 4

-- The constant table of the code, and its entry in a row and a column.
abbrev pub table : List (List ℕ)
table =
    (0 ∷ 2 ∷ 2 ∷ 1 ∷ 1 ∷ 3 ∷ [])
    ∷ (2 ∷ 2 ∷ 2 ∷ 1 ∷ 1 ∷ 3 ∷ [])
    ∷ (2 ∷ 2 ∷ 2 ∷ 1 ∷ 3 ∷ 3 ∷ [])
    ∷ (1 ∷ 1 ∷ 1 ∷ 2 ∷ 2 ∷ 2 ∷ [])
    ∷ (1 ∷ 1 ∷ 3 ∷ 2 ∷ 2 ∷ 4 ∷ [])
    ∷ (3 ∷ 3 ∷ 3 ∷ 2 ∷ 4 ∷ 4 ∷ [])
    ∷ []

abbrev pub table_entry : (row column : ℕ) → ℕ
table_entry i j = get_or (get_or table i []) j 0

-- The sum of the weights of caret k with caret k, over k.
abbrev pub weights : List Kind → List Kind → ℕ
weights [] ys = 0
weights (x ∷ xs) [] = 0
weights (x ∷ xs) (y ∷ ys) = weight x y + weights xs ys

-- The length of a pair of trees.
abbrev pub pair_length : Tree → Tree → ℕ
pair_length t s = weights (kinds t) (kinds s)

-- The length of a form: that of its smallest pair.
abbrev pub form_length : Form → ℕ
form_length f = pair_length (minus_tree f) (plus_tree f)
