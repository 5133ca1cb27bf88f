-- The constant table of the code: it is the list `table`, whose entries are the weights, and it is symmetric, each by one
-- computed test of all rows and columns.
--     code_table     the constant of the code is `table`     table-weight      an entry is the weight of the two kinds
--     index_of       the row and column of a case of the enum   table_symmetric   the table is symmetric
-- Assumes nothing.
use mathlib.Core.Path.{◌≡◌, refl, ap₂, ◌∙◌}
use mathlib.Core.List.{[], ◌∷◌}
use Prim.Native.Nat.{ℕ, ◌<◌}
use lib.Dec.{eqb, eqb→eq, lit<}
use lib.ListN.{get_or}
use Rattle.lists.proofs.Tests.{all_entries}
use Rattle.lengths.specs.declared.kinds.CaretKind.{CaretKind}
use Rattle.lengths.specs.declared.kinds.CaretKind.TheVariants as Named
use Rattle.lengths.specs.declared.table.TheConstants.{WEIGHTS}
use Rattle.lengths.specs.Kinds.{Kind, L0, LL, RI, RN, R0, I0, IR}
use Rattle.lengths.specs.Weights.{weight, table, table_entry}
use Rattle.lengths.specs.inside.Steps.{kind_named, index_of}

-- The constant of the code (src/table.rt) is the table.
pub code_table : WEIGHTS ≡ table
code_table = refl

-- The kinds in the order of the table; each case of the enum has a row, which is that of its kind.
abbrev row_kind_lem : ℕ → Kind
row_kind_lem i = get_or (R0 ∷ RN ∷ RI ∷ LL ∷ I0 ∷ IR ∷ []) i L0

pub index_lt : (x : CaretKind) → index_of x < 6
index_lt Named.R0 = lit< tt
index_lt Named.RN = lit< tt
index_lt Named.RI = lit< tt
index_lt Named.LL = lit< tt
index_lt Named.I0 = lit< tt
index_lt Named.IR = lit< tt

row_kind : (x : CaretKind) → row_kind_lem (index_of x) ≡ kind_named x
row_kind Named.R0 = refl
row_kind Named.RN = refl
row_kind Named.RI = refl
row_kind Named.LL = refl
row_kind Named.I0 = refl
row_kind Named.IR = refl

-- Each table_entry is the weight of the two kinds.
entry_weight : (i j : ℕ) → i < 6 → j < 6 → table_entry i j ≡ weight (row_kind_lem i) (row_kind_lem j)
entry_weight i j hi hj =
    eqb→eq (table_entry i j) (weight (row_kind_lem i) (row_kind_lem j))
    (all_entries 6 (λ i j. eqb (table_entry i j) (weight (row_kind_lem i) (row_kind_lem j))) tt i j hi hj)

pub table-weight : (x y : CaretKind) (i j : ℕ) → i ≡ index_of x → j ≡ index_of y
    → table_entry i j ≡ weight (kind_named x) (kind_named y)
table-weight x y i j ei ej =
    ap₂ table_entry ei ej
    ∙ entry_weight (index_of x) (index_of y) (index_lt x) (index_lt y)
    ∙ ap₂ weight (row_kind x) (row_kind y)

-- The table is symmetric.
pub table_symmetric : (i j : ℕ) → i < 6 → j < 6 → table_entry i j ≡ table_entry j i
table_symmetric i j hi hj =
    eqb→eq (table_entry i j) (table_entry j i) (all_entries 6 (λ i j. eqb (table_entry i j) (table_entry j i)) tt i j hi hj)
