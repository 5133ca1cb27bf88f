-- A caret in both trees that a reducing step takes away, or that a letter opens, is one column of weight 1 (01, 'The
-- reduced form' and 'The tree pair and the length').
-- Assumes nothing.
use mathlib.Core.Path.{◌≡◌, sym, ◌∙◌, ap}
use mathlib.Core.List.{List}
use Prim.Native.Nat.{ℕ, zero, suc}
use native.Mathlib.Nat.{zero-add}
use native.Mathlib.Omega.{arith}
use Rattle.lengths.specs.Labels.{'L}
use Rattle.geodesics.specs.inside.Costs.{column, side_label, Closed, cost}
use Rattle.geodesics.specs.Rows.{first, rest, row}
use Rattle.geodesics.proofs.Rows.{closed_more, cost_closed}

left_over_right : (e s : ℕ) → column 'L (side_label e) s ≡ suc s
left_over_right zero s = omega arith
left_over_right (suc e) s = omega arith

-- A caret of the left side over one of the right side.
pub split_left : (n l : ℕ) (bs cs : List ℕ)
    → cost (suc n) (row 0 (suc l) bs) (row 0 0 cs)
    ≡ suc (cost n (row (first bs) l (rest bs)) (row (first cs) 0 (rest cs)))
split_left n l bs cs = left_over_right (first cs) (cost n (row (first bs) l (rest bs)) (row (first cs) 0 (rest cs)))

-- An interior caret over one of the right side, with two leaves behind them.
pub split_open : (n s l : ℕ) (bs cs : List ℕ) → first bs ≡ 0 → first cs ≡ 0
    → cost (suc n) (row (suc s) l bs) (row 0 0 cs) ≡ suc (cost n (row s l (rest bs)) (row 0 0 (rest cs)))
split_open n s l bs cs hb hc = rw (hb, hc, zero-add s) (omega arith)

-- The same, where the rows were closed before and are closed again: the number of columns stays.
pub reduce_left : (k l : ℕ) (bs cs : List ℕ) → Closed k (row 0 (suc l) bs) → Closed k (row 0 0 cs)
    → cost (suc k) (row 0 (suc l) bs) (row 0 0 cs)
    ≡ suc (cost (suc k) (row (first bs) l (rest bs)) (row (first cs) 0 (rest cs)))
reduce_left zero l bs cs hb hc = absurd (omega arith)
reduce_left (suc k) l bs cs hb hc =
    split_left (suc k) l bs cs
    ∙ ap suc
    (sym
    (cost_closed (suc k) (row (first bs) l (rest bs)) (row (first cs) 0 (rest cs))
    (closed_more k (row (first bs) l (rest bs)) hb)
    (closed_more k (row (first cs) 0 (rest cs)) hc)))

pub reduce_open : (k s l : ℕ) (bs cs : List ℕ) → Closed k (row (suc s) l bs) → Closed k (row 0 0 cs)
    → first bs ≡ 0 → first cs ≡ 0
    → cost (suc k) (row (suc s) l bs) (row 0 0 cs) ≡ suc (cost (suc k) (row s l (rest bs)) (row 0 0 (rest cs)))
reduce_open zero s l bs cs hb hc eb ec = absurd (omega arith)
reduce_open (suc k) s l bs cs hb hc eb ec =
    split_open (suc k) s l bs cs eb ec
    ∙ ap suc
    (sym
    (cost_closed (suc k) (row s l (rest bs)) (row 0 0 (rest cs))
    (closed_more k (row s l (rest bs)) (rw (eb, zero-add s) at hb))
    (closed_more k (row 0 0 (rest cs)) (rw ec at hc))))
