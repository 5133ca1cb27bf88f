-- Reducing steps in any order end, after at most half as many as the sum of the exponents, in the one reduced form (01,
-- 'The reduced form'). Assumes nothing.
use mathlib.Core.Path.{◌≡◌, refl}
use mathlib.Core.Logic.{◌⊎◌, inl, inr}
use Prim.Native.Nat.{ℕ, zero, suc, ◌+◌, ◌<◌, ◌≤◌}
use native.Mathlib.Omega.{arith}
use Rattle.group.specs.Forms.{b_side, a_side, Form, empty, level, exponent, SameExponents, exponent_sum, letters}
use Rattle.group.specs.Reducing.{Reduced, Applies, ReducingStep, Steps, stay, onward}
use Rattle.group.specs.Products.{form_of}
use Rattle.group.proofs.Congruence.{◌≈◌, ≈_refl, ≈_sym, ◌⟫◌, ≈→joined}
use Rattle.group.proofs.Exponents.{above, exponent_above}
use Rattle.group.proofs.Theorems.{joined_map, the_exponents}
use Rattle.group.proofs.Reducing.{above_step, lowered_above, step_letters}
use Rattle.group.proofs.NoStep.{reduced_or_applies, step_at, step_exists}

-- A step lowers the sum of the exponents by two.
sum_first : (f : Form) → exponent_sum f ≡ exponent b_side f 0 + exponent a_side f 0 + exponent_sum (above f)
sum_first empty = refl
sum_first (level b a f) = refl

same_sum : (f g : Form) → SameExponents f g → exponent_sum f ≡ exponent_sum g
same_sum empty empty h = refl
same_sum empty (level c d g) h = omega (arith, h b_side 0, h a_side 0, same_sum empty g (λ s i. h s (suc i)))
same_sum (level b a f) empty h = omega (arith, h b_side 0, h a_side 0, same_sum f empty (λ s i. h s (suc i)))
same_sum (level b a f) (level c d g) h = omega (arith, h b_side 0, h a_side 0, same_sum f g (λ s i. h s (suc i)))

step_sum : (i : ℕ) (f g : Form) → ReducingStep i f g → exponent_sum f ≡ exponent_sum g + 2
step_sum zero f g t =
    omega (
      arith,
      sum_first f,
      sum_first (above f),
      sum_first g,
      t.removed b_side,
      t.removed a_side,
      exponent_above b_side f 0,
      exponent_above a_side f 0,
      t.applies.next b_side,
      t.applies.next a_side,
      same_sum (above (above f)) (above g) (lowered_above f g t),
    )
step_sum (suc i) f g t =
    omega (
      arith,
      sum_first f,
      sum_first g,
      t.kept b_side 0 (omega arith),
      t.kept a_side 0 (omega arith),
      step_sum i (above f) (above g) (above_step i f g t),
    )

-- Steps in any order: at most half as many as the sum of the exponents.
pub steps_bounded : {n : ℕ} {f g : Form} → Steps n f g → n + n ≤ exponent_sum f
steps_bounded stay = omega arith
steps_bounded (onward {f = f} {g = g} i t u) = omega (arith, step_sum i f g t, steps_bounded u)

steps_letters : {n : ℕ} {f g : Form} → Steps n f g → letters f ≈ letters g
steps_letters stay = ≈_refl
steps_letters (onward {f = f} {g = g} i t u) = step_letters i f g t ⟫ steps_letters u

-- Where no step applies any more, the exponents are those of the one reduced form.
pub steps_end : {n : ℕ} {f g : Form} → Steps n f g → Reduced g → SameExponents g (form_of (letters f))
steps_end {f = f} {g = g} u r =
    the_exponents (letters f) g r (joined_map (letters g) (letters f) (≈→joined (≈_sym (steps_letters u))))

-- And that is reached from every form.
pub steps_reach : (f : Form) → (n : ℕ) × (g : Form) × Steps n f g × Reduced g
steps_reach f = within (suc (exponent_sum f)) f (omega arith)
  where
    onwards : (m : ℕ) (h : Form) → exponent_sum h < suc m
        → ((k : Form) → exponent_sum k < m → (n : ℕ) × (g : Form) × Steps n k g × Reduced g)
        → Reduced h ⊎ ((i : ℕ) × Applies i h) → (n : ℕ) × (g : Form) × Steps n h g × Reduced g
    onwards m h l ih (inl r) = (0, h, stay, r)
    onwards m h l ih (inr t) =
        let step : ReducingStep t.0 h (step_at t.0 h) = step_exists t.0 h t.1 in
        let rest = ih (step_at t.0 h) (omega (arith, step_sum t.0 h (step_at t.0 h) step)) in
        (suc rest.0, rest.1, onward t.0 step rest.2, rest.3)

    within : (m : ℕ) (h : Form) → exponent_sum h < m → (n : ℕ) × (g : Form) × Steps n h g × Reduced g
    within zero h l = absurd (omega arith)
    within (suc m) h l = onwards m h l (within m) (reduced_or_applies h)
