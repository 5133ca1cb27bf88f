-- The classes of a row have its labels, and those of the left side come first. Assumes nothing.
use mathlib.Core.Path.{◌≡◌, refl}
use mathlib.Core.Bool.{Bool, true, false}
use mathlib.Core.List.{List, ◌∷◌}
use Prim.Native.Nat.{ℕ, zero, suc, ◌+◌}
use native.Mathlib.Omega.{arith}
use Rattle.lengths.specs.Classes.{Class}
use Rattle.lengths.specs.Kinds.{next_inside, some_inside_value, right_kind, kind_of}
use Rattle.lengths.specs.Labels.{'R, label_of}
use Rattle.geodesics.specs.inside.Costs.{side_label, inside_label, Closed}
use Rattle.geodesics.specs.Rows.{first, rest, row, inside_by, row_classes}
use Rattle.geodesics.proofs.Rows.{row_labels}
use Rattle.geodesics.proofs.TwoTables.{NoLeft, LeftFirst, later_labels}

-- The left side comes first.
no_left_inside : (e : ℕ) (cs : List Class) → NoLeft cs → NoLeft (inside_by e ∷ cs)
no_left_inside zero cs h = h
no_left_inside (suc e) cs h = h

row_no_left : (n s : ℕ) (es : List ℕ) → NoLeft (row_classes n (row s 0 es))
row_no_left zero s es = tt
row_no_left (suc n) zero es = row_no_left n (first es) (rest es)
row_no_left (suc n) (suc s) es =
    no_left_inside (first es) (row_classes n (row (first es + s) 0 (rest es))) (row_no_left n (first es + s) (rest es))

left_first-inside : (e : ℕ) (cs : List Class) → LeftFirst cs → LeftFirst (inside_by e ∷ cs)
left_first-inside zero cs h = h
left_first-inside (suc e) cs h = h

-- In every row the left side comes first.
pub row_left_first : (n s l : ℕ) (es : List ℕ) → LeftFirst (row_classes n (row s l es))
row_left_first zero s l es = tt
row_left_first (suc n) zero zero es = row_no_left n (first es) (rest es)
row_left_first (suc n) zero (suc l) es = row_left_first n (first es) l (rest es)
row_left_first (suc n) (suc s) l es =
    left_first-inside (first es) (row_classes n (row (first es + s) l (rest es)))
    (row_left_first n (first es + s) l (rest es))

-- The labels of the classes are those of the row.
right_label_last : (q : Bool) → label_of (right_kind false q) ≡ 'R
right_label_last true = refl
right_label_last false = refl

right_label_next : (e : ℕ) (cs : List Class)
    → label_of (right_kind (next_inside (inside_by e ∷ cs)) (some_inside_value (inside_by e ∷ cs))) ≡ side_label 1
right_label_next zero cs = refl
right_label_next (suc e) cs = refl

right_label : (n e : ℕ) (es : List ℕ) → Closed n (row e 0 es)
    → label_of (right_kind (next_inside (row_classes n (row e 0 es))) (some_inside_value (row_classes n (row e 0 es))))
    ≡ side_label e
right_label zero zero es h = refl
right_label zero (suc e) es h = absurd (omega arith)
right_label (suc n) zero es h = right_label_last (some_inside_value (row_classes n (row (first es) 0 (rest es))))
right_label (suc n) (suc e) es h = right_label_next (first es) (row_classes n (row (first es + e) 0 (rest es)))

inside_label_lem : (e : ℕ) (cs : List Class) → label_of (kind_of (inside_by e) (next_inside cs) (some_inside_value cs)) ≡ inside_label e
inside_label_lem zero cs = refl
inside_label_lem (suc e) cs = refl

-- All labels of a row.
pub row_labels_lem : (n s l : ℕ) (es : List ℕ) → Closed n (row s l es)
    → later_labels (row_classes n (row s l es)) ≡ row_labels n (row s l es)
row_labels_lem zero s l es h = refl
row_labels_lem (suc n) zero zero es h = rw (right_label n (first es) (rest es) h, row_labels_lem n (first es) 0 (rest es) h)
row_labels_lem (suc n) zero (suc l) es h = rw (row_labels_lem n (first es) l (rest es) h)
row_labels_lem (suc n) (suc s) l es h =
    rw (
      inside_label_lem (first es) (row_classes n (row (first es + s) l (rest es))),
      row_labels_lem n (first es + s) l (rest es) h,
    )
