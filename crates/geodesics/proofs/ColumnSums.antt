-- The weight of one column (001, Table 1): at least 1 but for dropped columns, and the same where the rows are
-- exchanged.
--     Weighs x y s   the column weighs at least 1, or it is R over R in front of nothing
-- Assumes nothing.
use mathlib.Core.Path.{◌≡◌, refl, sym, ◌∙◌, ap}
use mathlib.Core.Bool.{false, true≢false}
use mathlib.Core.List.{List, [], ◌∷◌}
use mathlib.Core.Logic.{◌⊎◌, inl, inr}
use Prim.Native.Nat.{ℕ, zero, suc, ◌+◌, ◌≤◌}
use native.Mathlib.Omega.{arith}
use Rattle.lengths.specs.Labels.{Label, 'I, 'N, 'L, 'R, 'X}
use Rattle.geodesics.specs.Table1.{is_r}
use Rattle.geodesics.specs.inside.Costs.{column}
use Rattle.geodesics.proofs.Columns.{columns}

-- A column weighs at least 1, or it is R over R in front of nothing.
abbrev pub Weighs : Label → Label → ℕ → Type 0
Weighs x y s = ((d : ℕ) × (column x y s ≡ suc (d + s))) ⊎ ((x ≡ 'R) × (y ≡ 'R) × (s ≡ 0))

-- Every column does.
pub column_weighs : (x y : Label) (s : ℕ) → Weighs x y s
column_weighs 'I 'I s = inl (1, omega arith)
column_weighs 'I 'N s = inl (3, omega arith)
column_weighs 'I 'L s = inl (1, omega arith)
column_weighs 'I 'R s = inl (0, omega arith)
column_weighs 'I 'X s = inl (2, omega arith)
column_weighs 'N 'I s = inl (3, omega arith)
column_weighs 'N 'N s = inl (3, omega arith)
column_weighs 'N 'L s = inl (1, omega arith)
column_weighs 'N 'R s = inl (2, omega arith)
column_weighs 'N 'X s = inl (2, omega arith)
column_weighs 'L 'I s = inl (1, omega arith)
column_weighs 'L 'N s = inl (1, omega arith)
column_weighs 'L 'L s = inl (1, omega arith)
column_weighs 'L 'R s = inl (0, omega arith)
column_weighs 'L 'X s = inl (0, omega arith)
column_weighs 'X 'I s = inl (2, omega arith)
column_weighs 'X 'N s = inl (2, omega arith)
column_weighs 'X 'L s = inl (0, omega arith)
column_weighs 'X 'R s = inl (1, omega arith)
column_weighs 'X 'X s = inl (1, omega arith)
column_weighs 'R 'I s = inl (0, omega arith)
column_weighs 'R 'N s = inl (2, omega arith)
column_weighs 'R 'L s = inl (0, omega arith)
column_weighs 'R 'X s = inl (1, omega arith)
column_weighs 'R 'R zero = inr (refl, refl, refl)
column_weighs 'R 'R (suc s) = inl (1, omega arith)

-- A column makes a sum no smaller.
pub column_grows : (x y : Label) (s : ℕ) → s ≤ column x y s
column_grows x y s = go (column_weighs x y s)
  where
    go : Weighs x y s → s ≤ column x y s
    go (inl d) = omega (arith, d.1)
    go (inr e) = omega (arith, e.2)

-- Above 0 where its first label is not R.
pub column_some : (x y : Label) (s : ℕ) → is_r x ≡ false → 1 ≤ column x y s
column_some x y s h = go (column_weighs x y s)
  where
    go : Weighs x y s → 1 ≤ column x y s
    go (inl d) = omega (arith, d.1)
    go (inr e) = absurd (true≢false (sym (ap is_r e.0) ∙ h))

-- The sum of Table 1 is the same where the rows are exchanged.
pub column_symmetric : (x y : Label) (s : ℕ) → column x y s ≡ column y x s
column_symmetric 'I 'I s = refl
column_symmetric 'I 'N s = refl
column_symmetric 'I 'L s = refl
column_symmetric 'I 'R s = refl
column_symmetric 'I 'X s = refl
column_symmetric 'N 'I s = refl
column_symmetric 'N 'N s = refl
column_symmetric 'N 'L s = refl
column_symmetric 'N 'R s = refl
column_symmetric 'N 'X s = refl
column_symmetric 'L 'I s = refl
column_symmetric 'L 'N s = refl
column_symmetric 'L 'L s = refl
column_symmetric 'L 'R s = refl
column_symmetric 'L 'X s = refl
column_symmetric 'R 'I s = refl
column_symmetric 'R 'N s = refl
column_symmetric 'R 'L s = refl
column_symmetric 'R 'R s = refl
column_symmetric 'R 'X s = refl
column_symmetric 'X 'I s = refl
column_symmetric 'X 'N s = refl
column_symmetric 'X 'L s = refl
column_symmetric 'X 'R s = refl
column_symmetric 'X 'X s = refl

-- And so is the sum.
pub columns_symmetric : (xs ys : List Label) → columns xs ys ≡ columns ys xs
columns_symmetric [] [] = refl
columns_symmetric [] (y ∷ ys) = refl
columns_symmetric (x ∷ xs) [] = refl
columns_symmetric (x ∷ xs) (y ∷ ys) =
    ap (column x y) (columns_symmetric xs ys) ∙ column_symmetric x y (columns ys xs)
