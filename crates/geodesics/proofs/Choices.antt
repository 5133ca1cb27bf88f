-- At the caret where a letter acts, one of two changes of the second row lowers the sum by one: one open subtree fewer,
-- or one caret of the left side more or fewer (001, Table 1). Assumes nothing.
use mathlib.Core.Path.{◌≡◌, refl}
use mathlib.Core.List.{List}
use mathlib.Core.Logic.{◌⊎◌, inl, inr}
use Prim.Native.Nat.{ℕ, zero, suc, ◌+◌}
use native.Mathlib.Nat.{add-suc, add-zero}
use native.Mathlib.Omega.{arith}
use Rattle.lengths.specs.Labels.{'L, 'R}
use Rattle.geodesics.specs.inside.Costs.{column, side_label, inside_label, row_label, Closed, cost}
use Rattle.geodesics.proofs.Columns.{fixed_inside, fixed_or}
use Rattle.geodesics.specs.Rows.{first, rest, Row, row, next_row}

-- Two carets of the right side: the sum is 0, or a caret of the left side in the second row lowers it.
right_column : (e f s : ℕ)
    → (column (side_label e) (side_label f) s ≡ 0)
    ⊎ (column (side_label e) (side_label f) s ≡ suc (column (side_label e) 'L s))
right_column zero zero zero = inl refl
right_column zero zero (suc s) = inr (omega arith)
right_column zero (suc f) s = inr (omega arith)
right_column (suc e) zero s = inr (omega arith)
right_column (suc e) (suc f) s = inr (omega arith)

-- So with two rows of the right side.
pub choose_right : (n : ℕ) (bs cs : List ℕ)
    → (cost n (row 0 0 bs) (row 0 0 cs) ≡ 0)
    ⊎ (cost n (row 0 0 bs) (row 0 0 cs) ≡ suc (cost n (row 0 0 bs) (row 0 1 cs)))
choose_right zero bs cs = inl refl
choose_right (suc n) bs cs =
    right_column (first bs) (first cs) (cost n (row (first bs) 0 (rest bs)) (row (first cs) 0 (rest cs)))

-- An interior caret over one of the right side: a caret of the left side for the latter lowers the sum, or two leaves
-- are behind them.
inside-column : (e f s : ℕ)
    → (column (inside_label e) (side_label f) s ≡ suc (column (inside_label e) 'L s)) ⊎ ((e ≡ 0) × (f ≡ 0))
inside-column zero zero s = inr (refl, refl)
inside-column zero (suc f) s = inl (omega arith)
inside-column (suc e) zero s = inl (omega arith)
inside-column (suc e) (suc f) s = inl (omega arith)

-- So with an open subtree in the first row.
pub choose_inside : (n s l : ℕ) (bs cs : List ℕ)
    → (cost (suc n) (row (suc s) l bs) (row 0 0 cs) ≡ suc (cost (suc n) (row (suc s) l bs) (row 0 1 cs)))
    ⊎ ((first bs ≡ 0) × (first cs ≡ 0))
choose_inside n s l bs cs =
    inside-column (first bs) (first cs) (cost n (row (first bs + s) l (rest bs)) (row (first cs) 0 (rest cs)))

-- R over I in front of columns that weigh s: R over R there lowers the sum, or a lower sum t behind it does.
leaves-column : (s t : ℕ) → (s ≡ 0) ⊎ (s ≡ suc t) → (1 + s ≡ suc (column 'R 'R s)) ⊎ (1 + s ≡ suc (1 + t))
leaves-column s t (inl e) = inl (rw e refl)
leaves-column s t (inr e) = inr (omega arith)

-- An open subtree in the second row: to close it lowers the sum, or one caret of the left side more does.
side_column : (e f s t : ℕ) → (e ≡ 0 → f ≡ 0 → (s ≡ 0) ⊎ (s ≡ suc t))
    → (column (side_label e) (inside_label f) s ≡ suc (column (side_label e) (side_label f) s))
    ⊎ (column (side_label e) (inside_label f) s ≡ suc (column (side_label e) (inside_label f) t))
side_column zero zero s t h = leaves-column s t (h refl refl)
side_column zero (suc f) s t h = inl (omega arith)
side_column (suc e) zero s t h = inl (omega arith)
side_column (suc e) (suc f) s t h = inl (omega arith)

inside-closes : (e f s : ℕ)
    → column (inside_label e) (inside_label f) s ≡ suc (column (inside_label e) (side_label f) s)
inside-closes zero zero s = omega arith
inside-closes zero (suc f) s = omega arith
inside-closes (suc e) zero s = omega arith
inside-closes (suc e) (suc f) s = omega arith

left_closes : (f s : ℕ) → column 'L (inside_label f) s ≡ suc (column 'L (side_label f) s)
left_closes zero s = omega arith
left_closes (suc f) s = omega arith

-- One open subtree.
choose_one : (n : ℕ) (u : Row) (cs : List ℕ)
    → (cost (suc n) u (row 1 0 cs) ≡ suc (cost (suc n) u (row 0 0 cs)))
    ⊎ (cost (suc n) u (row 1 0 cs) ≡ suc (cost (suc n) u (row 1 1 cs)))
choose_one n (row (suc p) l bs) cs =
    rw (add-zero (first cs))
    (inl (inside-closes (first bs) (first cs) (cost n (row (first bs + p) l (rest bs)) (row (first cs) 0 (rest cs)))))
choose_one n (row zero (suc l) bs) cs =
    rw (add-zero (first cs))
    (inl (left_closes (first cs) (cost n (row (first bs) l (rest bs)) (row (first cs) 0 (rest cs)))))
choose_one n (row zero zero bs) cs =
    rw (add-zero (first cs))
    (side_column (first bs) (first cs)
    (cost n (row (first bs) 0 (rest bs)) (row (first cs) 0 (rest cs)))
    (cost n (row (first bs) 0 (rest bs)) (row (first cs) 1 (rest cs)))
    (λ e f. rw (e, f) (choose_right n (rest bs) (rest cs))))

-- Any number of open subtrees.
pub choose_open : (n : ℕ) (u : Row) (q : ℕ) (cs : List ℕ) → Closed n (row (suc q) 1 cs)
    → (cost n u (row (suc q) 0 cs) ≡ suc (cost n u (row q 0 cs)))
    ⊎ (cost n u (row (suc q) 0 cs) ≡ suc (cost n u (row (suc q) 1 cs)))
choose_open zero u q cs h = absurd (omega arith)
choose_open (suc n) u zero cs h = choose_one n u cs
choose_open (suc n) u (suc q) cs h =
    rw (add-suc (first cs) q)
    (fixed_or (row_label u) (inside_label (first cs))
    (cost n (next_row u) (row (suc (first cs + q)) 0 (rest cs)))
    (cost n (next_row u) (row (first cs + q) 0 (rest cs)))
    (cost n (next_row u) (row (suc (first cs + q)) 1 (rest cs)))
    (fixed_inside (row_label u) (first cs))
    (choose_open n (next_row u) (first cs + q) (rest cs) (rw (add-suc (first cs) q) at h)))

-- The last caret of the left side in the second row, with leaves behind both: one caret of the left side fewer lowers
-- the sum, or one more does.
pub choose_leaves : (n p l : ℕ) (bs cs : List ℕ) → first bs ≡ 0 → first cs ≡ 0
    → (cost (suc n) (row p l bs) (row 0 1 cs) ≡ suc (cost (suc n) (row p l bs) (row 0 0 cs)))
    ⊎ (cost (suc n) (row p l bs) (row 0 1 cs) ≡ suc (cost (suc n) (row p l bs) (row 0 2 cs)))
choose_leaves n (suc p) l bs cs hb hc = rw (hb, hc) (inl (omega arith))
choose_leaves n zero (suc l) bs cs hb hc = rw (hb, hc) (inl (omega arith))
choose_leaves n zero zero bs cs hb hc =
    rw (hb, hc)
    (leaves-column (cost n (row 0 0 (rest bs)) (row 0 0 (rest cs))) (cost n (row 0 0 (rest bs)) (row 0 1 (rest cs)))
    (choose_right n (rest bs) (rest cs)))
