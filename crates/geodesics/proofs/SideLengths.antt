-- The sum of Table 1 of two lists of exponents: a letter put behind changes it by one, some letter lowers it, and its
-- rows are closed behind as many columns as it is large.
-- Assumes nothing.
use mathlib.Core.Path.{◌≡◌, sym, ◌∙◌, ap, subst₂, ◌≡⟨◌⟩◌, ◌∎}
use mathlib.Core.Bool.{true, true≢false}
use mathlib.Core.List.{List}
use mathlib.Core.Logic.{◌⊎◌, inl, inr}
use Prim.Native.Nat.{ℕ, zero, suc, ◌+◌, ◌≤◌}
use native.Mathlib.Omega.{arith}
use Rattle.lists.specs.Entries.{total}
use Rattle.group.specs.Letters.{Letter, 'a, 'A, 'b, 'B}
use Rattle.lengths.specs.Labels.{'R}
use Rattle.geodesics.specs.Table1.{is_r}
use Rattle.geodesics.specs.inside.Costs.{column, label_by, row_label, Closed, cost}
use Rattle.geodesics.proofs.Columns.{ByOne}
use Rattle.geodesics.proofs.ColumnSums.{Weighs, column_weighs}
use Rattle.geodesics.specs.Rows.{first, rest, Row, row, next_row, from_one}
use Rattle.geodesics.proofs.Rows.{closed_plus}
use Rattle.geodesics.proofs.Sides.{Sides, put_letter, sum_to, enough, sides_length}
use Rattle.geodesics.proofs.LetterChanges.{letter_changes}
use Rattle.geodesics.proofs.LetterLowers.{Lower, none, by, letter_lowers}
use Rattle.geodesics.proofs.Enough.{first-total, fits, BothClosed, both_closed, sum_at}

-- A letter put behind changes the sum by one.
pub put_changes : (f : Sides) (x : Letter) → ByOne (sides_length (put_letter f x)) (sides_length f)
put_changes f x =
    let k : ℕ = enough f + enough (put_letter f x) in
    subst₂ ByOne (sum_at (suc k) (put_letter f x) (omega arith)) (sum_at (suc k) f (omega arith))
    (letter_changes k f x (fits k f (omega arith)))

-- Unless it is 0, some letter lowers it.
pub put_lowers : (f : Sides)
    → (sides_length f ≡ 0) ⊎ ((x : Letter) × (sides_length f ≡ suc (sides_length (put_letter f x))))
put_lowers f = go (letter_lowers k f (fits k f (omega arith)))
  where
    k : ℕ
    k = enough f + enough (put_letter f 'a) + enough (put_letter f 'A) + enough (put_letter f 'b) + enough (put_letter f 'B)

    within : (x : Letter) → enough (put_letter f x) ≤ suc k
    within 'a = omega arith
    within 'A = omega arith
    within 'b = omega arith
    within 'B = omega arith

    go : Lower k f → (sides_length f ≡ 0) ⊎ ((x : Letter) × (sides_length f ≡ suc (sides_length (put_letter f x))))
    go (none h) = inl (sym (sum_at (suc k) f (omega arith)) ∙ h)
    go (by x h) =
        let lowered : sides_length f ≡ suc (sides_length (put_letter f x)) =
        sides_length f ≡⟨ sym (sum_at (suc k) f (omega arith)) ⟩
        sum_to (suc k) f ≡⟨ h ⟩
        suc (sum_to (suc k) (put_letter f x)) ≡⟨ ap suc (sum_at (suc k) (put_letter f x) (within x)) ⟩
        suc (sides_length (put_letter f x)) ∎ in
        inr (x, lowered)

-- The label R says that nothing is open, to come, or opened next.
label_R : (s l e : ℕ) → is_r (label_by s l e) ≡ true → s + (l + e) ≡ 0
label_R (suc s) l zero h = absurd (true≢false (sym h))
label_R (suc s) l (suc e) h = absurd (true≢false (sym h))
label_R zero (suc l) e h = absurd (true≢false (sym h))
label_R zero zero zero h = omega arith
label_R zero zero (suc e) h = absurd (true≢false (sym h))

-- A row with the label R that is closed behind this caret is closed before it.
closed_before : (r : Row) → row_label r ≡ 'R → Closed 0 (next_row r) → Closed 0 r
closed_before (row s l es) e h = go s l (label_R s l (first es) (ap is_r e)) h
  where
    go : (s l : ℕ) → s + (l + first es) ≡ 0 → Closed 0 (next_row (row s l es)) → Closed 0 (row s l es)
    go (suc s) l p h = absurd (omega arith)
    go zero (suc l) p h = absurd (omega arith)
    go zero zero p h = omega (arith, first-total es)

-- Every column weighs at least 1 but those behind which both rows are closed: rows are closed behind as many columns as
-- their sum.
pub closed_within : (n : ℕ) (u v : Row) → Closed n u → Closed n v → Closed (cost n u v) u × Closed (cost n u v) v
closed_within zero u v hb ha = (hb, ha)
closed_within (suc n) u v hb ha =
    go (cost n (next_row u) (next_row v)) (column_weighs (row_label u) (row_label v) (cost n (next_row u) (next_row v)))
    (closed_within n (next_row u) (next_row v) hb ha)
  where
    go : (s : ℕ) → Weighs (row_label u) (row_label v) s → Closed s (next_row u) × Closed s (next_row v)
        → Closed (column (row_label u) (row_label v) s) u × Closed (column (row_label u) (row_label v) s) v
    go s (inl d) h = rw d.1 (closed_plus d.0 s (next_row u) h.0, closed_plus d.0 s (next_row v) h.1)
    go s (inr e) h =
        rw (e.0, e.1, e.2)
        (closed_before u e.0 (rw e.2 at h.0), closed_before v e.1 (rw e.2 at h.1))

-- So are the rows of two lists.
pub length_closed : (f : Sides) → BothClosed (sides_length f) f
length_closed f =
    let q = closed_within (enough f) (from_one f.b) (from_one f.a) (both_closed f).b_row (both_closed f).a_row in
    record { b_row = q.0; a_row = q.1 }

-- Each caret closes one.
pub closed_total : (n s l : ℕ) (es : List ℕ) → Closed n (row s l es) → s + (l + total es) ≤ n
closed_total zero s l es h = omega arith
closed_total (suc n) zero zero es h = omega (arith, closed_total n (first es) 0 (rest es) h, first-total es)
closed_total (suc n) zero (suc l) es h = omega (arith, closed_total n (first es) l (rest es) h, first-total es)
closed_total (suc n) (suc s) l es h = omega (arith, closed_total n (first es + s) l (rest es) h, first-total es)

-- The exponents of a side sum to at most the sum; where it is 0 they are 0.
pub from_total : (n : ℕ) (es : List ℕ) → Closed n (from_one es) → total es ≤ n
from_total n es h =
    omega (
      arith,
      closed_total n (first (rest es)) (first es) (rest (rest es)) h,
      first-total es,
      first-total (rest es),
    )
