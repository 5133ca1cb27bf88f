-- The sum of Table 1 with the trailing columns R over R dropped, as specs/Table1.antt has it, is Fordham's length.
-- Assumes nothing.
use mathlib.Core.Path.{◌≡◌, refl, sym, ◌∙◌, ap, ap₂, ◌≡⟨◌⟩◌, ◌∎}
use mathlib.Core.Bool.{Bool, true, false, cond}
use mathlib.Core.List.{List, [], ◌∷◌}
use Prim.Native.Nat.{ℕ, zero, suc, ◌+◌, ◌≤◌}
use native.Mathlib.Omega.{arith}
use Rattle.group.specs.Forms.{Form}
use Rattle.trees.specs.Trees.{Tree, leaf, caret, carets}
use Rattle.trees.specs.Pairs.{minus_tree, plus_tree}
use Rattle.trees.specs.Readings.{exponents_of}
use Rattle.lengths.specs.Classes.{Class}
use Rattle.lengths.specs.Kinds.{kinds_of}
use Rattle.lengths.specs.Weights.{pair_length, form_length}
use Rattle.lengths.specs.Labels.{Label, 'I, 'N, 'L, 'R, 'X, labels_of, behind_first, labels}
use Rattle.geodesics.specs.Table1.{all_r, table_sum, label_length}
use Rattle.geodesics.specs.inside.Costs.{column}
use Rattle.geodesics.proofs.Columns.{columns}
use Rattle.geodesics.proofs.ColumnSums.{column_some}
use Rattle.geodesics.specs.Rows.{from_one, row_classes}
use Rattle.geodesics.proofs.Sides.{sides, sides_length}
use Rattle.geodesics.proofs.TwoTables.{later_labels, later_sum}
use Rattle.geodesics.proofs.TreeRows.{tree_row}
use Rattle.geodesics.proofs.Fordham.{row_sum, pair_closed, pair_length_lem, same_carets}

-- The sum is 0 just where all columns are R over R.
abbrev ZeroIf : Bool → ℕ → Type 0
ZeroIf true s = s ≡ 0
ZeroIf false s = 1 ≤ s

right_zero : (r : Bool) (s : ℕ) → ZeroIf r s → ZeroIf r (column 'R 'R s)
right_zero true s h = rw h refl
right_zero false zero h = absurd (omega arith)
right_zero false (suc s) h = omega arith

all_R_zero : (xs ys : List Label) → ZeroIf (all_r xs ys) (columns xs ys)
all_R_zero [] ys = refl
all_R_zero (x ∷ xs) [] = zero_end x xs
  where
    zero_end : (x : Label) (xs : List Label) → ZeroIf (all_r (x ∷ xs) []) 0
    zero_end x xs = refl
all_R_zero ('R ∷ xs) ('R ∷ ys) = right_zero (all_r xs ys) (columns xs ys) (all_R_zero xs ys)
all_R_zero ('R ∷ xs) ('I ∷ ys) = omega arith
all_R_zero ('R ∷ xs) ('N ∷ ys) = omega arith
all_R_zero ('R ∷ xs) ('L ∷ ys) = omega arith
all_R_zero ('R ∷ xs) ('X ∷ ys) = omega arith
all_R_zero ('I ∷ xs) (y ∷ ys) = column_some 'I y (columns xs ys) refl
all_R_zero ('N ∷ xs) (y ∷ ys) = column_some 'N y (columns xs ys) refl
all_R_zero ('L ∷ xs) (y ∷ ys) = column_some 'L y (columns xs ys) refl
all_R_zero ('X ∷ xs) (y ∷ ys) = column_some 'X y (columns xs ys) refl

right_dropped : (r : Bool) (s : ℕ) → ZeroIf r s → cond r 0 (2 + s) ≡ column 'R 'R s
right_dropped true s h = rw h refl
right_dropped false zero h = absurd (omega arith)
right_dropped false (suc s) h = refl

-- The sum with dropped columns is the sum column by column.
table_columns : (xs ys : List Label) → table_sum xs ys ≡ columns xs ys
table_columns [] ys = refl
table_columns (x ∷ xs) [] = refl
table_columns ('R ∷ xs) ('R ∷ ys) =
    ap (λ (s : ℕ). cond (all_r xs ys) 0 (2 + s)) (table_columns xs ys)
    ∙ right_dropped (all_r xs ys) (columns xs ys) (all_R_zero xs ys)
table_columns ('R ∷ xs) ('I ∷ ys) = ap (λ (s : ℕ). 1 + s) (table_columns xs ys)
table_columns ('R ∷ xs) ('N ∷ ys) = ap (λ (s : ℕ). 3 + s) (table_columns xs ys)
table_columns ('R ∷ xs) ('L ∷ ys) = ap (λ (s : ℕ). 1 + s) (table_columns xs ys)
table_columns ('R ∷ xs) ('X ∷ ys) = ap (λ (s : ℕ). 2 + s) (table_columns xs ys)
table_columns ('I ∷ xs) (y ∷ ys) = ap (column 'I y) (table_columns xs ys)
table_columns ('N ∷ xs) (y ∷ ys) = ap (column 'N y) (table_columns xs ys)
table_columns ('L ∷ xs) (y ∷ ys) = ap (column 'L y) (table_columns xs ys)
table_columns ('X ∷ xs) (y ∷ ys) = ap (column 'X y) (table_columns xs ys)

-- The labels of a tree by its row.
tree_labels : (t : Tree) (n : ℕ) → carets t ≡ suc n → labels t ≡ later_labels (row_classes n (from_one (exponents_of t)))
tree_labels t n h = ap (λ (cs : List Class). labels_of (behind_first (kinds_of cs))) (sym (tree_row t n h))

no_labels : (t s : Tree) → carets t ≡ 0 → carets s ≡ 0
    → label_length t s ≡ sides_length (sides (exponents_of s) (exponents_of t))
no_labels leaf leaf ht hs = refl
no_labels leaf (caret a b) ht hs = absurd (omega arith)
no_labels (caret a b) s ht hs = absurd (omega arith)

pair_labels : (t s : Tree) → carets t ≡ carets s → label_length t s ≡ pair_length t s
pair_labels t s e = go (carets t) refl ∙ sym (pair_length_lem t s e)
  where
    go : (n : ℕ) → carets t ≡ n → label_length t s ≡ sides_length (sides (exponents_of s) (exponents_of t))
    go zero h = no_labels t s h (sym e ∙ h)
    go (suc n) h =
        let es : List ℕ = exponents_of t in
        let fs : List ℕ = exponents_of s in
        table_sum (labels t) (labels s)
        ≡⟨ table_columns (labels t) (labels s) ⟩
        columns (labels t) (labels s)
        ≡⟨ ap₂ columns (tree_labels t n h) (tree_labels s n (sym e ∙ h)) ⟩
        later_sum (row_classes n (from_one es)) (row_classes n (from_one fs))
        ≡⟨ row_sum n es fs (pair_closed t s n h (sym e ∙ h)) ⟩
        sides_length (sides fs es) ∎

-- The sum of Table 1 over the labels of a form is its length.
pub form_labels : (f : Form) → label_length (minus_tree f) (plus_tree f) ≡ form_length f
form_labels f = pair_labels (minus_tree f) (plus_tree f) (same_carets f)
