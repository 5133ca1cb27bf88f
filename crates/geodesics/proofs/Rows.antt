-- The labels of a tree's carets by two counters, and their sum of Table 1 (001, section 2): how it changes with one
-- counter, and what closed rows weigh. Assumes nothing.
use mathlib.Core.Path.{◌≡◌, refl, sym, ◌∙◌, ap}
use mathlib.Core.List.{List, [], ◌∷◌}
use Prim.Native.Nat.{ℕ, zero, suc, ◌+◌}
use native.Mathlib.Nat.{add-suc, add-zero, suc-add, zero-add}
use native.Mathlib.Omega.{arith}
use Rattle.lengths.specs.Labels.{Label, 'L, 'R}
use Rattle.geodesics.specs.Rows.{first, rest, Row, row, next_row}
use Rattle.geodesics.specs.inside.Costs.{inside_label, row_label, column, cost, remaining, Closed}
use Rattle.geodesics.proofs.Columns.{
  columns,
  ByOne,
  column_left,
  column-inside,
  fixed_left,
  fixed_inside,
  fixed_by_one,
}

-- The labels of n carets.
abbrev pub row_labels : ℕ → Row → List Label
row_labels zero r = []
row_labels (suc n) r = row_label r ∷ row_labels n (next_row r)

-- It is the sum over the labels.
pub cost_columns : (n : ℕ) (u v : Row) → cost n u v ≡ columns (row_labels n u) (row_labels n v)
cost_columns zero u v = refl
cost_columns (suc n) u v = ap (column (row_label u) (row_label v)) (cost_columns n (next_row u) (next_row v))

-- One caret of the left side more changes the sum by one.
pub left_more : (n : ℕ) (u : Row) (q m : ℕ) (cs : List ℕ) → Closed n (row q (suc m) cs)
    → ByOne (cost n u (row q (suc m) cs)) (cost n u (row q m cs))
left_more zero u q m cs h = absurd (omega arith)
left_more (suc n) u zero zero cs h =
    column_left (row_label u) (first cs) (cost n (next_row u) (row (first cs) 0 (rest cs)))
left_more (suc n) u zero (suc m) cs h =
    fixed_by_one (row_label u) 'L
    (cost n (next_row u) (row (first cs) (suc m) (rest cs)))
    (cost n (next_row u) (row (first cs) m (rest cs)))
    (fixed_left (row_label u))
    (left_more n (next_row u) (first cs) m (rest cs) h)
left_more (suc n) u (suc q) m cs h =
    fixed_by_one (row_label u) (inside_label (first cs))
    (cost n (next_row u) (row (first cs + q) (suc m) (rest cs)))
    (cost n (next_row u) (row (first cs + q) m (rest cs)))
    (fixed_inside (row_label u) (first cs))
    (left_more n (next_row u) (first cs + q) m (rest cs) h)

-- One open subtree more, behind the left side, changes it by one.
pub open_more : (n : ℕ) (u : Row) (q : ℕ) (cs : List ℕ) → Closed n (row (suc q) 0 cs)
    → ByOne (cost n u (row (suc q) 0 cs)) (cost n u (row q 0 cs))
open_more zero u q cs h = absurd (omega arith)
open_more (suc n) u zero cs h =
    rw (add-zero (first cs)) (column-inside (row_label u) (first cs) (cost n (next_row u) (row (first cs) 0 (rest cs))))
open_more (suc n) u (suc q) cs h =
    rw (add-suc (first cs) q)
    (fixed_by_one (row_label u) (inside_label (first cs))
    (cost n (next_row u) (row (suc (first cs + q)) 0 (rest cs)))
    (cost n (next_row u) (row (first cs + q) 0 (rest cs)))
    (fixed_inside (row_label u) (first cs))
    (open_more n (next_row u) (first cs + q) (rest cs) (rw (add-suc (first cs) q) at h)))

-- A closed row goes on with R.
label_closed : (r : Row) → Closed 0 r → row_label r ≡ 'R
label_closed (row (suc s) l es) h = absurd (omega arith)
label_closed (row zero (suc l) es) h = absurd (omega arith)
label_closed (row zero zero []) h = refl
label_closed (row zero zero (zero ∷ es)) h = refl
label_closed (row zero zero (suc e ∷ es)) h = absurd (omega arith)

closed_next : (r : Row) → Closed 0 r → Closed 1 r
closed_next (row (suc s) l es) h = absurd (omega arith)
closed_next (row zero (suc l) es) h = absurd (omega arith)
closed_next (row zero zero []) h = refl
closed_next (row zero zero (e ∷ es)) h = omega arith

-- A row that is closed behind n carets is closed behind more.
pub closed_more : (n : ℕ) (r : Row) → Closed n r → Closed (suc n) r
closed_more zero r h = closed_next r h
closed_more (suc n) r h = closed_more n (next_row r) h

pub closed_plus : (d n : ℕ) (r : Row) → Closed n r → Closed (d + n) r
closed_plus zero n r h = rw (zero-add n) h
closed_plus (suc d) n r h = rw (suc-add d n) (closed_more (d + n) r (closed_plus d n r h))

-- For closing, only the sum of the two counters matters.
pub remaining_swap : (n s l : ℕ) (es : List ℕ) → remaining n (row s (suc l) es) ≡ remaining n (row (suc s) l es)
remaining_swap zero s l es = omega arith
remaining_swap (suc n) zero l es = rw (add-zero (first es))
remaining_swap (suc n) (suc s) l es =
    remaining_swap n (first es + s) l (rest es)
    ∙ ap (λ (k : ℕ). remaining n (row k l (rest es))) (sym (add-suc (first es) s))

-- Columns behind closed rows weigh nothing.
pub cost_closed : (n : ℕ) (u v : Row) → Closed n u → Closed n v → cost (suc n) u v ≡ cost n u v
cost_closed zero u v hb ha = rw (label_closed u hb, label_closed v ha)
cost_closed (suc n) u v hb ha =
    ap (column (row_label u) (row_label v)) (cost_closed n (next_row u) (next_row v) hb ha)
