-- The sum of Table 1 over columns, column by column (001, Table 1), and how a column's weight changes with one label.
--     columns xs ys    the sum
--     ByOne m n        m and n differ by one
--     Fixed x y        the column adds a number that does not depend on those behind it
-- Assumes nothing.
use mathlib.Core.Path.{◌≡◌, refl}
use mathlib.Core.List.{List, [], ◌∷◌}
use mathlib.Core.Logic.{◌⊎◌, inl, inr}
use Prim.Native.Nat.{ℕ, zero, suc, ◌+◌}
use native.Mathlib.Omega.{arith}
use Rattle.lengths.specs.Labels.{Label, 'I, 'N, 'L, 'R, 'X}
use Rattle.geodesics.specs.inside.Costs.{side_label, inside_label, column}

-- The sum over columns.
abbrev pub columns : List Label → List Label → ℕ
columns [] ys = zero
columns (x ∷ xs) [] = zero
columns (x ∷ xs) (y ∷ ys) = column x y (columns xs ys)

-- Two numbers differ by one.
pub data ByOne (m n : ℕ) : Type 0 where
  up : m ≡ suc n → ByOne m n
  down : n ≡ suc m → ByOne m n

-- The other way round.
pub by_one_turned : (m n : ℕ) → ByOne m n → ByOne n m
by_one_turned m n (up h) = down h
by_one_turned m n (down h) = up h

-- A caret of the left side for one of the right side.
pub column_left : (y : Label) (e s : ℕ) → ByOne (column y 'L s) (column y (side_label e) s)
column_left 'I zero s = up (omega arith)
column_left 'I (suc e) s = down (omega arith)
column_left 'N zero s = down (omega arith)
column_left 'N (suc e) s = down (omega arith)
column_left 'L zero s = up (omega arith)
column_left 'L (suc e) s = up (omega arith)
column_left 'X zero s = down (omega arith)
column_left 'X (suc e) s = down (omega arith)
column_left 'R zero zero = up refl
column_left 'R zero (suc s) = down (omega arith)
column_left 'R (suc e) s = down (omega arith)

-- An interior caret for one of the right side.
pub column-inside : (y : Label) (e s : ℕ) → ByOne (column y (inside_label e) s) (column y (side_label e) s)
column-inside 'I zero s = up (omega arith)
column-inside 'I (suc e) s = up (omega arith)
column-inside 'N zero s = up (omega arith)
column-inside 'N (suc e) s = up (omega arith)
column-inside 'L zero s = up (omega arith)
column-inside 'L (suc e) s = up (omega arith)
column-inside 'X zero s = up (omega arith)
column-inside 'X (suc e) s = up (omega arith)
column-inside 'R zero zero = up refl
column-inside 'R zero (suc s) = down (omega arith)
column-inside 'R (suc e) s = up (omega arith)

-- The column adds a number of its own.
abbrev pub Fixed : Label → Label → Type 0
Fixed y v = (k : ℕ) × ((s : ℕ) → column y v s ≡ k + s)

-- Below any label, that of the left side does.
pub fixed_left : (y : Label) → Fixed y 'L
fixed_left 'I = (2, λ s. refl)
fixed_left 'N = (2, λ s. refl)
fixed_left 'L = (2, λ s. refl)
fixed_left 'R = (1, λ s. refl)
fixed_left 'X = (1, λ s. refl)

-- Those of interior carets.
pub fixed_inside : (y : Label) (e : ℕ) → Fixed y (inside_label e)
fixed_inside 'I zero = (2, λ s. refl)
fixed_inside 'I (suc e) = (4, λ s. refl)
fixed_inside 'N zero = (4, λ s. refl)
fixed_inside 'N (suc e) = (4, λ s. refl)
fixed_inside 'L zero = (2, λ s. refl)
fixed_inside 'L (suc e) = (2, λ s. refl)
fixed_inside 'R zero = (1, λ s. refl)
fixed_inside 'R (suc e) = (3, λ s. refl)
fixed_inside 'X zero = (3, λ s. refl)
fixed_inside 'X (suc e) = (3, λ s. refl)

by_one_plus : (k m n : ℕ) → ByOne m n → ByOne (k + m) (k + n)
by_one_plus k m n (up h) = up (omega arith)
by_one_plus k m n (down h) = down (omega arith)

-- Behind such a column, sums that differ by one differ by one in front of it.
pub fixed_by_one : (y v : Label) (m n : ℕ) → Fixed y v → ByOne m n → ByOne (column y v m) (column y v n)
fixed_by_one y v m n p h = rw (p.1 m, p.1 n) (by_one_plus p.0 m n h)

or_plus : (k m n o : ℕ) → (m ≡ suc n) ⊎ (m ≡ suc o) → (k + m ≡ suc (k + n)) ⊎ (k + m ≡ suc (k + o))
or_plus k m n o (inl h) = inl (omega arith)
or_plus k m n o (inr h) = inr (omega arith)

-- The same of one of two lower sums.
pub fixed_or : (y v : Label) (m n o : ℕ) → Fixed y v → (m ≡ suc n) ⊎ (m ≡ suc o)
    → (column y v m ≡ suc (column y v n)) ⊎ (column y v m ≡ suc (column y v o))
fixed_or y v m n o p h = rw (p.1 m, p.1 n, p.1 o) (or_plus p.0 m n o h)
