-- Carets with no exponent behind them: how long the label stays, and the rows behind them.
--     skip n r   the row n carets on
-- Assumes nothing.
use mathlib.Core.Path.{◌≡◌, refl, sym, ◌∙◌, ap, ap₂, subst}
use mathlib.Core.List.{List, [], ◌∷◌}
use Prim.Native.Nat.{ℕ, zero, suc, ◌+◌, ◌-◌, ◌≤◌, ◌<◌}
use native.Mathlib.Nat.{suc-add, zero-add}
use native.Mathlib.Omega.{arith}
use lib.ListN.{drop, get_or}
use Rattle.lengths.specs.Labels.{Label}
use Rattle.geodesics.specs.Rows.{first, rest, Row, row, next_open, next_left, next_row}
use Rattle.geodesics.specs.inside.Costs.{label_by, row_label, column, cost, Closed}
use Rattle.geodesics.proofs.SameRows.{rest_at}
use Rattle.scans.specs.inside.Steps.{RunsBy, lefts_past, Zeros}
use Rattle.scans.proofs.Tallies.{stack}

-- The row n carets on.
abbrev pub skip : ℕ → Row → Row
skip zero r = r
skip (suc n) r = skip n (next_row r)

-- The columns from there on.
pub skip_closed : (n m : ℕ) (r : Row) → Closed (n + m) r → Closed m (skip n r)
skip_closed zero m r h = rw (zero-add m) at h
skip_closed (suc n) m r h = skip_closed n m (next_row r) (rw (suc-add n m) at h)

-- As long as the labels are x over y.
pub skip_cost : (n m : ℕ) (u v : Row) (x y : Label) → ((i : ℕ) → i < n → row_label (skip i u) ≡ x)
    → ((i : ℕ) → i < n → row_label (skip i v) ≡ y) → cost (n + m) u v ≡ stack n x y (cost m (skip n u) (skip n v))
skip_cost zero m u v x y hu hv = ap (λ (k : ℕ). cost k u v) (zero-add m)
skip_cost (suc n) m u v x y hu hv =
    ap (λ (k : ℕ). cost k u v) (suc-add n m)
    ∙ rw (hu 0 (omega arith), hv 0 (omega arith))
    (ap (column x y)
    (skip_cost n m (next_row u) (next_row v) x y (λ i p. hu (suc i) (omega arith)) (λ i p. hv (suc i) (omega arith))))

-- The first entry from a place on, and those behind it.
pub first-drop : (i : ℕ) (t : List ℕ) → first (drop i t) ≡ get_or t i 0
first-drop zero [] = refl
first-drop zero (e ∷ t) = refl
first-drop (suc i) [] = refl
first-drop (suc i) (e ∷ t) = first-drop i t

pub rest-drop : (i : ℕ) (t : List ℕ) → rest (drop i t) ≡ drop (suc i) t
rest-drop zero [] = refl
rest-drop zero (e ∷ t) = refl
rest-drop (suc i) [] = refl
rest-drop (suc i) (e ∷ t) = rest-drop i t

drop-rest : (n : ℕ) (es : List ℕ) → drop n (rest es) ≡ drop (suc n) es
drop-rest n [] = none n
  where
    none : (n : ℕ) → drop {A = ℕ} n [] ≡ []
    none zero = refl
    none (suc n) = refl
drop-rest n (e ∷ es) = refl

rest_zeros : (n : ℕ) (es : List ℕ) → Zeros (suc n) es → Zeros n (rest es)
rest_zeros n es z i p = rest_at es i ∙ z (suc i) (omega arith)

first_zero : (n : ℕ) (es : List ℕ) → Zeros (suc n) es → first es ≡ 0
first_zero n es z = first-drop 0 es ∙ z 0 (omega arith)

-- A run at the next caret is shorter by one.
runs_next : (n s l : ℕ) → RunsBy (suc n) s l → RunsBy n (next_open s 0) (next_left s l)
runs_next n zero zero h = tt
runs_next n zero (suc zero) h = tt
runs_next n zero (suc (suc l)) h = omega arith
runs_next n (suc s) l h = subst (λ (k : ℕ). RunsBy n k l) (sym (zero-add s)) (go s l (omega arith))
  where
    go : (s l : ℕ) → n ≤ s → RunsBy n s l
    go zero zero p = tt
    go zero (suc l) p = omega arith
    go (suc s) l p = p

lefts_next : (n s l : ℕ) → RunsBy (suc n) s l → lefts_past (next_open s 0) (next_left s l) n ≡ lefts_past s l (suc n)
lefts_next n zero zero h = omega arith
lefts_next n zero (suc l) h = omega arith
lefts_next n (suc s) l h = ap (λ (k : ℕ). lefts_past k l n) (zero-add s) ∙ go s (omega arith)
  where
    go : (s : ℕ) → n ≤ s → lefts_past s l n ≡ l
    go zero p = omega arith
    go (suc s) p = refl

open_next : (n s : ℕ) → next_open s 0 - n ≡ s - suc n
open_next n zero = omega arith
open_next n (suc s) = omega arith

lefts_none : (s l : ℕ) → lefts_past s l 0 ≡ l
lefts_none zero l = omega arith
lefts_none (suc s) l = refl

-- The row behind a run of carets with no exponent behind them.
pub skip_run : (n s l : ℕ) (es : List ℕ) → RunsBy n s l → Zeros n es
    → skip n (row s l es) ≡ row (s - n) (lefts_past s l n) (drop n es)
skip_run zero s l es h z =
    let same : s ≡ s - 0 = omega arith in
    ap₂ (λ (i j : ℕ). row i j es) same (sym (lefts_none s l))
skip_run (suc n) s l es h z =
    let e : first es ≡ 0 = first_zero n es z in
    ap (λ (k : ℕ). skip n (row (next_open s k) (next_left s l) (rest es))) e
    ∙ skip_run n (next_open s 0) (next_left s l) (rest es) (runs_next n s l h) (rest_zeros n es z)
    ∙ ap₂ (λ (i j : ℕ). row i j (drop n (rest es))) (open_next n s) (lefts_next n s l h)
    ∙ ap (row (s - suc n) (lefts_past s l (suc n))) (drop-rest n es)

-- A part of a run is a run.
pub runs-fewer : (i n s l : ℕ) → i ≤ n → RunsBy n s l → RunsBy i s l
runs-fewer i n zero zero p h = tt
runs-fewer i n zero (suc l) p h = omega arith
runs-fewer i n (suc s) l p h = omega arith

label_same : (i n s l : ℕ) → i < n → RunsBy n s l → label_by (s - i) (lefts_past s l i) 0 ≡ label_by s l 0
label_same i n zero zero p h =
    let none : 0 - i ≡ 0 = omega arith in
    ap₂ (λ (j k : ℕ). label_by j k 0) none none
label_same i n zero (suc l) p h =
    let none : 0 - i ≡ 0 = omega arith in
    let some : suc l - i ≡ suc (l - i) = omega arith in
    ap₂ (λ (j k : ℕ). label_by j k 0) none some
label_same i n (suc s) l p h =
    let some : suc s - i ≡ suc (s - i) = omega arith in
    ap (λ (j : ℕ). label_by j l 0) some

-- All of them have one label.
pub run_label : (n s l : ℕ) (es : List ℕ) → RunsBy n s l → Zeros n es → (i : ℕ) → i < n
    → row_label (skip i (row s l es)) ≡ label_by s l 0
run_label n s l es h z i p =
    ap row_label (skip_run i s l es (runs-fewer i n s l (omega arith) h) (λ j q. z j (omega arith)))
    ∙ ap (label_by (s - i) (lefts_past s l i)) (first-drop i es ∙ z i p)
    ∙ label_same i n s l p h
