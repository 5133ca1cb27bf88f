-- Fordham's length of a form is the sum of Table 1 of its two lists of exponents (000, section 3.1; 001, Table 1).
--     sides_of f   the lists of exponents of a form
-- Assumes nothing.
use mathlib.Core.Path.{◌≡◌, refl, sym, ◌∙◌, ap₂, ◌≡⟨◌⟩◌, ◌∎}
use mathlib.Core.List.{List, ◌∷◌}
use Prim.Native.Nat.{ℕ, zero, suc, ◌≤◌}
use native.Mathlib.Nat.{zero-add}
use native.Mathlib.Omega.{arith}
use lib.ListN.{length}
use Rattle.group.specs.Forms.{b_side, a_side, Form, exponents}
use Rattle.trees.specs.Trees.{Tree, leaf, caret, carets}
use Rattle.trees.specs.Building.{needed}
use Rattle.trees.specs.Pairs.{carets_of, minus_tree, plus_tree}
use Rattle.trees.specs.Readings.{exponents_of}
use Rattle.trees.proofs.Built.{tree_carets, tree_exponents}
use Rattle.lengths.specs.Classes.{Class, on_left, classes}
use Rattle.lengths.specs.Kinds.{later_kinds, kinds_of}
use Rattle.lengths.specs.Weights.{weights, pair_length, form_length}
use Rattle.geodesics.proofs.Columns.{columns}
use Rattle.geodesics.proofs.ColumnSums.{columns_symmetric}
use Rattle.geodesics.specs.Rows.{first, rest, Row, from_one, row_classes}
use Rattle.geodesics.proofs.Rows.{row_labels, cost_columns}
use Rattle.geodesics.proofs.Sides.{Sides, sides, sum_to, sides_length}
use Rattle.geodesics.proofs.Enough.{BothClosed, sum_any}
use Rattle.geodesics.proofs.SameRows.{length_same}
use Rattle.geodesics.proofs.TwoTables.{LeftFirst, later_labels, later_sum, two_tables}
use Rattle.geodesics.proofs.TreeRows.{row_classes-length, tree_row, tree_closed}
use Rattle.geodesics.proofs.RowLabels.{row_left_first, row_labels_lem}

-- The lists of exponents of a form.
abbrev pub sides_of : Form → Sides
sides_of f = sides (exponents b_side f) (exponents a_side f)

-- The sum over the classes of two rows.
pub row_sum : (n : ℕ) (es fs : List ℕ) → BothClosed n (sides fs es)
    → later_sum (row_classes n (from_one es)) (row_classes n (from_one fs)) ≡ sides_length (sides fs es)
row_sum n es fs c =
    let u : Row = from_one es in
    let v : Row = from_one fs in
    let of-u : later_labels (row_classes n u) ≡ row_labels n u =
    row_labels_lem n (first (rest es)) (first es) (rest (rest es)) c.a_row in
    let of-v : later_labels (row_classes n v) ≡ row_labels n v =
    row_labels_lem n (first (rest fs)) (first fs) (rest (rest fs)) c.b_row in
    later_sum (row_classes n u) (row_classes n v) ≡⟨ ap₂ columns of-u of-v ⟩
    columns (row_labels n u) (row_labels n v) ≡⟨ columns_symmetric (row_labels n u) (row_labels n v) ⟩
    columns (row_labels n v) (row_labels n u) ≡⟨ sym (cost_columns n v u) ⟩
    sum_to n (sides fs es) ≡⟨ sum_any n (sides fs es) c ⟩
    sides_length (sides fs es) ∎

-- The rows of two trees of one size.
pub pair_closed : (t s : Tree) (n : ℕ) → carets t ≡ suc n → carets s ≡ suc n
    → BothClosed n (sides (exponents_of s) (exponents_of t))
pair_closed t s n ht hs = record { b_row = tree_closed s n hs; a_row = tree_closed t n ht }

some_carets : (t s : Tree) (n : ℕ) → carets t ≡ suc n → carets s ≡ suc n
    → pair_length t s ≡ sides_length (sides (exponents_of s) (exponents_of t))
some_carets t s n ht hs =
    weights (kinds_of (classes t)) (kinds_of (classes s))
    ≡⟨ ap₂ (λ (xs ys : List Class). weights (kinds_of xs) (kinds_of ys)) (sym (tree_row t n ht)) (sym (tree_row s n hs)) ⟩
    weights (kinds_of (on_left ∷ cs)) (kinds_of (on_left ∷ ds))
    ≡⟨ zero-add (weights (later_kinds cs) (later_kinds ds)) ⟩
    weights (later_kinds cs) (later_kinds ds)
    ≡⟨ two_tables cs ds same_length left_first_cs left_first_ds ⟩
    later_sum cs ds
    ≡⟨ row_sum n es fs (pair_closed t s n ht hs) ⟩
    sides_length (sides fs es) ∎
  where
    es : List ℕ
    es = exponents_of t

    fs : List ℕ
    fs = exponents_of s

    cs : List Class
    cs = row_classes n (from_one es)

    ds : List Class
    ds = row_classes n (from_one fs)

    same_length : length cs ≡ length ds
    same_length = row_classes-length n (from_one es) ∙ sym (row_classes-length n (from_one fs))

    left_first_cs : LeftFirst cs
    left_first_cs = row_left_first n (first (rest es)) (first es) (rest (rest es))

    left_first_ds : LeftFirst ds
    left_first_ds = row_left_first n (first (rest fs)) (first fs) (rest (rest fs))

no_carets : (t s : Tree) → carets t ≡ 0 → carets s ≡ 0
    → pair_length t s ≡ sides_length (sides (exponents_of s) (exponents_of t))
no_carets leaf leaf ht hs = refl
no_carets leaf (caret a b) ht hs = absurd (omega arith)
no_carets (caret a b) s ht hs = absurd (omega arith)

-- Fordham's length of a pair of trees is the sum over their exponents.
pub pair_length_lem : (t s : Tree) → carets t ≡ carets s
    → pair_length t s ≡ sides_length (sides (exponents_of s) (exponents_of t))
pair_length_lem t s e = go (carets t) refl
  where
    go : (n : ℕ) → carets t ≡ n → pair_length t s ≡ sides_length (sides (exponents_of s) (exponents_of t))
    go zero h = no_carets t s h (sym e ∙ h)
    go (suc n) h = some_carets t s n h (sym e ∙ h)

-- The trees of a form are of one size and have its exponents.
module _ (f : Form) where
  minus_enough : needed 0 (exponents a_side f) ≤ carets_of f
  minus_enough = omega arith

  plus_enough : needed 0 (exponents b_side f) ≤ carets_of f
  plus_enough = omega arith

  pub same_carets : carets (minus_tree f) ≡ carets (plus_tree f)
  same_carets =
      tree_carets (carets_of f) (exponents a_side f) minus_enough
      ∙ sym (tree_carets (carets_of f) (exponents b_side f) plus_enough)

  -- Fordham's length of a form is the sum of its lists.
  pub form_length_lem : form_length f ≡ sides_length (sides_of f)
  form_length_lem =
      pair_length_lem (minus_tree f) (plus_tree f) same_carets
      ∙ length_same (sides (exponents_of (plus_tree f)) (exponents_of (minus_tree f))) (sides_of f)
      (tree_exponents (carets_of f) (exponents b_side f) plus_enough)
      (tree_exponents (carets_of f) (exponents a_side f) minus_enough)
