-- The numbers of the leaves in characters. Assumes nothing.
use mathlib.Core.Path.{◌≡◌, sym, ap, ◌∙◌}
use mathlib.Core.List.{[], ◌∷◌, ◌++◌}
use Prim.Native.Nat.{ℕ, suc, ◌+◌, ◌-◌, ◌*◌, ◌/◌, ◌%◌, ◌≤◌, ◌<◌}
use native.Mathlib.Numerals.{add-one}
use native.Mathlib.Omega.{arith}
use borrow.Author.Tests.{lt-ltb, le-ltb, le-leb, lt-leb, eq-eqb, ne_eqb}
use Rattle.numerals.specs.Decimals.{ascii}
use Rattle.pictures.specs.Characters.{space, digit_of, digit_cell, digits_from, digit_row, tens_rows, number_rows}

-- The digit at a place: where the number reaches it, in front of it in the row of units, and elsewhere.
module _ (place k : ℕ) where
  pub digit_here : place ≤ k → digit_of place k ≡ 48 + k / place % 10
  digit_here h = simp (le-leb place k h)

  pub digit_unit : k < place → place ≡ 1 → digit_of place k ≡ 48
  digit_unit h e = simp (lt-leb place k h, eq-eqb place 1 e)

  pub digit_none : k < place → (place ≡ 1 → ⊥) → digit_of place k ≡ space
  digit_none h e = simp (lt-leb place k h, ne_eqb place 1 e)

-- An even and an odd column.
pub digit_even : (place c : ℕ) → c % 2 ≡ 0 → digit_cell place c ≡ digit_of place (c / 2)
digit_even place c e = simp (eq-eqb (c % 2) 0 e)

pub digit_odd : (place c : ℕ) → (c % 2 ≡ 0 → ⊥) → digit_cell place c ≡ space
digit_odd place c e = simp (ne_eqb (c % 2) 0 e)

-- The first of the columns from c on.
pub digits_next : (n place c : ℕ) → c ≤ 2 * n
    → digits_from place c (2 * n + 1 - c) ≡ (digit_cell place c ∷ []) ++ digits_from place (c + 1) (2 * n + 1 - (c + 1))
digits_next n place c below =
    let e : 2 * n + 1 - c ≡ suc (2 * n + 1 - (c + 1)) = omega arith in
    ap (digits_from place c) e
    ∙ ap (λ (j : ℕ). digit_cell place c ∷ digits_from place j (2 * n + 1 - (c + 1))) (sym (add-one c))

-- Behind the last column.
pub digits_none : (n place c : ℕ) → 2 * n < c → digits_from place c (2 * n + 1 - c) ≡ ascii "\n"
digits_none n place c above = let e : 2 * n + 1 - c ≡ 0 = omega arith in ap (digits_from place c) e

-- All columns.
pub digits_all : (n place : ℕ) → digits_from place 0 (2 * n + 1 - 0) ≡ digit_row n place
digits_all n place = let e : 2 * n + 1 - 0 ≡ 2 * n + 1 = omega arith in ap (digits_from place 0) e

-- The rows of numbers of one digit, of two and of three.
pub tens_short : (n : ℕ) → n < 10 → digit_row n 1 ≡ tens_rows n
unfolding tens_rows
tens_short n h = simp (lt-ltb n 10 h)

pub tens_long : (n : ℕ) → 10 ≤ n → digit_row n 10 ++ digit_row n 1 ≡ tens_rows n
unfolding tens_rows
tens_long n h = simp (le-ltb n 10 h)

pub numbers_short : (n : ℕ) → n < 100 → tens_rows n ≡ number_rows n
unfolding number_rows
numbers_short n h = simp (lt-ltb n 100 h)

pub numbers_long : (n : ℕ) → 100 ≤ n → digit_row n 100 ++ tens_rows n ≡ number_rows n
unfolding number_rows
numbers_long n h = simp (le-ltb n 100 h)
