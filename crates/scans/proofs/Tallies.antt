-- Columns added to a tally: R over R waits, and counts once a column behind it weighs something.
--     stack n x y s   the weight of n columns x over y in front of columns that weigh s
-- Assumes nothing.
use mathlib.Core.Path.{◌≡◌, refl, sym, ◌∙◌, ap}
use mathlib.Core.Bool.{Bool, true, false, true≢false}
use mathlib.Core.Logic.{inl, inr}
use Prim.Native.Nat.{ℕ, zero, suc, ◌+◌, ◌*◌, ◌≤◌}
use native.Mathlib.Omega.{arith}
use Rattle.lengths.specs.Labels.{Label, 'I, 'N, 'L, 'R, 'X}
use Rattle.geodesics.specs.Table1.{table1}
use Rattle.geodesics.specs.inside.Costs.{column}
use Rattle.geodesics.proofs.ColumnSums.{Weighs, column_weighs}
use Rattle.scans.specs.declared.table.Tally.{Tally}
use Rattle.scans.specs.inside.Steps.{tallied, weighing, waiting, added, held}
use Rattle.scans.proofs.Constant.{entry_label}

-- The weight of columns of one kind in front of others.
abbrev pub stack : ℕ → Label → Label → ℕ → ℕ
stack zero x y s = s
stack (suc n) x y s = column x y (stack n x y s)

-- A column that is not R over R weighs what the table has, whatever is behind it.
column_plain : (x y : Label) (s : ℕ) → waiting x y ≡ false → column x y s ≡ table1 x y + s
column_plain 'I y s h = refl
column_plain 'N y s h = refl
column_plain 'L y s h = refl
column_plain 'X y s h = refl
column_plain 'R 'I s h = refl
column_plain 'R 'N s h = refl
column_plain 'R 'L s h = refl
column_plain 'R 'X s h = refl
column_plain 'R 'R s h = absurd (true≢false h)

table_some : (x y : Label) → waiting x y ≡ false → 1 ≤ table1 x y
table_some x y h = go (column_weighs x y 1)
  where
    go : Weighs x y 1 → 1 ≤ table1 x y
    go (inl d) = omega (arith, d.1, column_plain x y 1 h)
    go (inr e) = absurd (omega (arith, e.2))

stack_plain : (n : ℕ) (x y : Label) (s : ℕ) → waiting x y ≡ false → stack n x y s ≡ table1 x y * n + s
stack_plain zero x y s h = omega arith
stack_plain (suc n) x y s h = omega (arith, column_plain x y (stack n x y s) h, stack_plain n x y s h)

-- Both labels are R.
both_R : (x y : Label) → waiting x y ≡ true → (x ≡ 'R) × (y ≡ 'R)
both_R 'R 'R h = (refl, refl)
both_R 'R 'I h = absurd (true≢false (sym h))
both_R 'R 'N h = absurd (true≢false (sym h))
both_R 'R 'L h = absurd (true≢false (sym h))
both_R 'R 'X h = absurd (true≢false (sym h))
both_R 'I y h = absurd (true≢false (sym h))
both_R 'N y h = absurd (true≢false (sym h))
both_R 'L y h = absurd (true≢false (sym h))
both_R 'X y h = absurd (true≢false (sym h))

-- What is held in front of nothing, and of something.
held_some : (p c : ℕ) → 1 ≤ c → held p c ≡ p + c
held_some p zero h = absurd (omega arith)
held_some p (suc c) h = refl

pub held_none : (c : ℕ) → held 0 c ≡ c
held_none zero = refl
held_none (suc c) = omega arith

-- Columns R over R add to what waits.
held_right : (p c : ℕ) → held p (column 'R 'R c) ≡ held (p + 2) c
held_right p zero = refl
held_right p (suc c) = omega (arith, held_some p (2 + suc c) (omega arith))

held_rights : (n p c : ℕ) → held p (stack n 'R 'R c) ≡ held (p + 2 * n) c
held_rights zero p c = ap (λ (k : ℕ). held k c) (omega arith)
held_rights (suc n) p c =
    held_right p (stack n 'R 'R c) ∙ held_rights n (p + 2) c ∙ ap (λ (k : ℕ). held k c) (omega arith)

weight_is : (x y : Label) (n : ℕ) → weighing x y n ≡ table1 x y * n
weight_is x y n = ap (λ (k : ℕ). k * n) (entry_label x y)

stack_some : (n : ℕ) (x y : Label) (s : ℕ) → waiting x y ≡ false → 1 ≤ n → 1 ≤ stack n x y s
stack_some zero x y s h p = absurd (omega arith)
stack_some (suc n) x y s h p = omega (arith, column_plain x y (stack n x y s) h, table_some x y h)

-- What columns that do not wait come to, with those behind them.
pub plain_held : (p n : ℕ) (x y : Label) (c : ℕ) → waiting x y ≡ false → 1 ≤ n
    → held p (stack n x y c) ≡ p + (weighing x y n + c)
plain_held p n x y c h some =
    omega (arith, held_some p (stack n x y c) (stack_some n x y c h some), stack_plain n x y c h, weight_is x y n)

-- What columns R over R add to what waits.
pub right_held : (p n : ℕ) (x y : Label) (c : ℕ) → waiting x y ≡ true
    → (weighing x y n ≡ 2 * n) × (held p (stack n x y c) ≡ held (p + 2 * n) c)
right_held p n x y c h =
    let e = both_R x y h in
    rw (e.0, e.1) (weight_is 'R 'R n, held_rights n p c)

-- At least one column x over y more, whatever is behind them.
pub added_whole : (t : Tally) (x y : Label) (n : ℕ) → 1 ≤ n → (c : ℕ)
    → (added t x y n).sum + held (added t x y n).pending c ≡ t.sum + held t.pending (stack n x y c)
added_whole t x y n some c = go (waiting x y) refl
  where
    go : (q : Bool) → waiting x y ≡ q
        → (tallied t (weighing x y n) q).sum + held (tallied t (weighing x y n) q).pending c
        ≡ t.sum + held t.pending (stack n x y c)
    go true h =
        let e = right_held t.pending n x y c h in
        ap (λ (k : ℕ). t.sum + k) (ap (λ (k : ℕ). held (t.pending + k) c) e.0 ∙ sym e.1)
    go false h = omega (arith, held_none c, plain_held t.pending n x y c h some)
