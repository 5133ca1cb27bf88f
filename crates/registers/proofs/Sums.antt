-- The sum over all holders of their live entries is the number of entries. Assumes nothing.
use mathlib.Core.Path.{◌≡◌, refl, sym, ap, ◌∙◌}
use mathlib.Core.Bool.{Bool, true, false, cond}
use mathlib.Core.List.{List, [], ◌∷◌}
use Prim.Native.Nat.{ℕ, zero, suc, ◌+◌, ◌<◌}
use native.Mathlib.Omega.{arith}
use native.Mathlib.Nat.{not-suc-le-zero, le_of_suc-le-suc}
use lib.ListN.{length}
use lib.Dec.{eqb}
use borrow.Author.Tests.{eq-eqb, ne_eqb, eqb-true, eqb-false}
use Rattle.lists.specs.Entries.{total}
use Rattle.lists.specs.Tables.{values}
use Rattle.lists.proofs.Tables.{values_same}
use Rattle.registers.specs.Format.{Entry}
use Rattle.registers.specs.Reading.{live}
use Rattle.registers.proofs.Counts.{live_front}

-- 1 at x and 0 elsewhere.
abbrev one : ℕ → ℕ → ℕ
one x h = cond (eqb x h) 1 0

total_plus : (m : ℕ) (f g : ℕ → ℕ) → total (values m (λ h. f h + g h)) ≡ total (values m f) + total (values m g)
unfolding values
total_plus zero f g = refl
total_plus (suc m) f g = omega (arith, total_plus m (λ h. f (suc h)) (λ h. g (suc h)))

total_zero : (m : ℕ) → total (values m (λ h. 0)) ≡ 0
unfolding values
total_zero zero = refl
total_zero (suc m) = omega (arith, total_zero m)

one_suc : (x i : ℕ) → one (suc x) (suc i) ≡ one x i
one_suc x i = ap (λ (b : Bool). cond b 1 0) (go (eqb x i) refl)
  where
    go : (b : Bool) → eqb x i ≡ b → eqb (suc x) (suc i) ≡ eqb x i
    go true e = eq-eqb (suc x) (suc i) (ap suc (eqb-true x i e)) ∙ sym e
    go false e = ne_eqb (suc x) (suc i) (λ q. eqb-false x i e (omega (arith, q))) ∙ sym e

total_one : (m x : ℕ) → x < m → total (values m (one x)) ≡ 1
unfolding values
total_one zero x h = absurd (not-suc-le-zero h)
total_one (suc m) zero h =
    omega (arith, ap total (values_same m (λ i. one 0 (suc i)) (λ i. 0) (λ i lt. not_here i)), total_zero m)
  where
    not_here : (i : ℕ) → one 0 (suc i) ≡ 0
    not_here i = ap (λ (b : Bool). cond b 1 0) (ne_eqb 0 (suc i) (λ e. omega (arith, e)))
total_one (suc m) (suc x) h =
    omega (
      arith,
      not_first,
      ap total (values_same m (λ i. one (suc x) (suc i)) (one x) (λ i lt. one_suc x i)),
      total_one m x (le_of_suc-le-suc h),
    )
  where
    not_first : one (suc x) 0 ≡ 0
    not_first = ap (λ (b : Bool). cond b 1 0) (ne_eqb (suc x) 0 (λ e. omega (arith, e)))

-- Every holder's number is below m.
abbrev pub Below : ℕ → List Entry → Type 0
Below m [] = Unit {0}
Below m (e ∷ es) = (e.holder < m) × Below m es

pub live-sum : (m : ℕ) (es : List Entry) → Below m es → total (values m (λ h. live h es)) ≡ length es
live-sum m [] b = total_zero m
live-sum m (e ∷ es) b =
    ap total (values_same m (λ h. live h (e ∷ es)) (λ h. one e.holder h + live h es) (λ i lt. live_front i e es))
    ∙ total_plus m (one e.holder) (λ h. live h es)
    ∙ omega (arith, total_one m e.holder b.0, live-sum m es b.1)
