-- Table 1 as the constant of the code has it: its entries are those of 001, and it is symmetric, each by one computed
-- test of all rows and columns.
-- Assumes nothing.
use mathlib.Core.Path.{◌≡◌, refl, ap₂, ◌∙◌}
use mathlib.Core.List.{[], ◌∷◌}
use Prim.Native.Nat.{ℕ, ◌<◌}
use lib.Dec.{eqb, eqb→eq, lit<}
use lib.ListN.{get_or}
use Rattle.lists.proofs.Tests.{all_entries}
use Rattle.lengths.specs.Labels.{Label, 'I, 'N, 'L, 'R, 'X}
use Rattle.geodesics.specs.Table1.{table1}
use Rattle.scans.specs.Table.{number_of, label_entry}

-- The labels in the order of the table.
abbrev numbered : ℕ → Label
numbered i = get_or ('I ∷ 'N ∷ 'L ∷ 'R ∷ 'X ∷ []) i 'I

pub number_lt : (x : Label) → number_of x < 5
number_lt 'I = lit< tt
number_lt 'N = lit< tt
number_lt 'L = lit< tt
number_lt 'R = lit< tt
number_lt 'X = lit< tt

number_label : (x : Label) → numbered (number_of x) ≡ x
number_label 'I = refl
number_label 'N = refl
number_label 'L = refl
number_label 'R = refl
number_label 'X = refl

entry_table : (i j : ℕ) → i < 5 → j < 5 → label_entry i j ≡ table1 (numbered i) (numbered j)
entry_table i j hi hj =
    eqb→eq (label_entry i j) (table1 (numbered i) (numbered j))
    (all_entries 5 (λ i j. eqb (label_entry i j) (table1 (numbered i) (numbered j))) tt i j hi hj)

-- Each entry is that of Table 1.
pub entry_label : (x y : Label) → label_entry (number_of x) (number_of y) ≡ table1 x y
entry_label x y =
    entry_table (number_of x) (number_of y) (number_lt x) (number_lt y) ∙ ap₂ table1 (number_label x) (number_label y)

-- The table is symmetric.
pub entry_symmetric : (i j : ℕ) → i < 5 → j < 5 → label_entry i j ≡ label_entry j i
entry_symmetric i j hi hj =
    eqb→eq (label_entry i j) (label_entry j i) (all_entries 5 (λ i j. eqb (label_entry i j) (label_entry j i)) tt i j hi hj)
