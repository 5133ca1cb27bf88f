-- One computed test of finitely many cases: a test that passes at each number below n, and what it says of each.
--     both p q   both tests pass           all n f   the test f passes at 0, 1, …, n − 1
-- Assumes nothing.
use mathlib.Core.Path.{sym, subst}
use mathlib.Core.Bool.{Bool, true, false}
use mathlib.Core.Logic.{⊎_elim}
use Prim.Native.Nat.{ℕ, zero, suc, ◌<◌}
use native.Mathlib.Nat.{le_of_suc-le-suc, not-suc-le-zero, eq-or-lt_of_le}
use lib.Dec.{T}

-- Both of two tests.
abbrev pub both : Bool → Bool → Bool
both true q = q
both false q = false

pub both_first : (p q : Bool) → T (both p q) → T p
both_first true q h = tt
both_first false q h = h

pub both_second : (p q : Bool) → T (both p q) → T q
both_second true q h = h
both_second false q h = absurd h

-- The test passes at each number below n.
abbrev pub all : ℕ → (ℕ → Bool) → Bool
all zero f = true
all (suc n) f = both (f n) (all n f)

pub all_at : (n : ℕ) (f : ℕ → Bool) → T (all n f) → (k : ℕ) → k < n → T (f k)
all_at zero f t k h = absurd (not-suc-le-zero h)
all_at (suc n) f t k h =
    ⊎_elim (λ e. subst (λ (m : ℕ). T (f m)) (sym e) (both_first (f n) (all n f) t))
    (λ l. all_at n f (both_second (f n) (all n f) t) k l) (eq-or-lt_of_le (le_of_suc-le-suc h))

-- A test of a row and a column that passes at all of them.
pub all_entries : (n : ℕ) (f : ℕ → ℕ → Bool) → T (all n (λ i. all n (f i))) → (i j : ℕ) → i < n → j < n → T (f i j)
all_entries n f h i j hi hj = all_at n (f i) (all_at n (λ i. all n (f i)) h i hi) j hj
