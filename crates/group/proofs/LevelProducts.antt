-- A generator times a form whose first level `reduce_level` put there, and that form's exponents where no reducing step
-- applies: what a reader of forms level by level asks of products. Assumes nothing.
use mathlib.Core.Path.{◌≡◌, refl, sym, ◌∙◌, ap, ◌≡⟨◌⟩◌, ◌∎}
use Prim.Native.Nat.{ℕ, zero, suc, ◌+◌, ◌<◌}
use native.Mathlib.Omega.{arith}
use Rattle.group.specs.Forms.{Side, b_side, a_side, Form, empty, level, exponent, SameExponents, Trimmed}
use Rattle.group.specs.Products.{reduce_level, times_x0, single, times_generator}
use Rattle.group.proofs.Exponents.{trimmed_above}

-- A reducing step: one of x_0 and one of x_0⁻¹ go, and the level (0, 0) above.
pub reduce_level_step : (b a : ℕ) (f : Form) → reduce_level (suc b) (suc a) (reduce_level 0 0 f) ≡ reduce_level b a f
reduce_level_step b a empty = refl
reduce_level_step b a (level c d f) = refl

pub x0_raises : (b a : ℕ) (f : Form) → times_x0 b_side (reduce_level b a f) ≡ reduce_level (suc b) a f
x0_raises zero zero empty = refl
x0_raises zero zero (level c d f) = refl
x0_raises zero (suc a) f = refl
x0_raises (suc b) zero f = refl
x0_raises (suc b) (suc a) empty = x0_raises b a empty
x0_raises (suc b) (suc a) (level zero zero f) = x0_raises b a f
x0_raises (suc b) (suc a) (level zero (suc d) f) = refl
x0_raises (suc b) (suc a) (level (suc c) d f) = refl

-- x_0⁻¹ opens a level where b_0 is 0.
pub x0_opens : (a : ℕ) (f : Form) → times_x0 a_side (reduce_level 0 a f) ≡ reduce_level 0 (suc a) (reduce_level 0 0 f)
x0_opens zero empty = refl
x0_opens zero (level c d f) = refl
x0_opens (suc a) f = refl

pub x0_lowers : (b a : ℕ) (f : Form) → Trimmed f → times_x0 a_side (reduce_level (suc b) a f) ≡ reduce_level b a f
x0_lowers b zero f t = refl
x0_lowers zero (suc a) empty t = x0_opens a empty
x0_lowers (suc b) (suc a) empty t = x0_lowers b a empty t
x0_lowers zero (suc a) (level zero zero empty) t = absurd (omega arith)
x0_lowers zero (suc a) (level zero zero (level c d f)) t = x0_opens a (level c d f)
x0_lowers (suc b) (suc a) (level zero zero f) t = x0_lowers b a f (trimmed_above 0 0 f t)
x0_lowers b (suc a) (level zero (suc d) f) t = refl
x0_lowers b (suc a) (level (suc c) d f) t = refl

pub times_x0_lem : (s : Side) (f : Form) → times_generator s 0 f ≡ times_x0 s f
times_x0_lem s empty = refl
times_x0_lem s (level b a f) = refl

-- x_(k+1) passes the level (b, a): above it the index is j = k + b.
pub times_past : (s : Side) (k b j a : ℕ) (f : Form) → j ≡ k + b
    → times_generator s (suc k) (reduce_level b a f) ≡ reduce_level b a (times_generator s j f)
times_past s k zero j zero empty e =
    let c : k ≡ j = omega arith in ap (λ (i : ℕ). reduce_level 0 0 (single s i)) c
times_past s k zero j zero (level c d f) e = ap (λ (i : ℕ). reduce_level 0 0 (times_generator s i (level c d f))) (sym e)
times_past s k zero j (suc a) f e = ap (λ (i : ℕ). reduce_level 0 (suc a) (times_generator s i f)) (sym e)
times_past s k (suc b) j zero f e = ap (λ (i : ℕ). reduce_level (suc b) 0 (times_generator s i f)) (sym e)
times_past s k (suc b) zero (suc a) f e = absurd (omega arith)
times_past s k (suc b) (suc j) (suc a) empty e =
    times_past s k b j a empty (omega arith) ∙ sym (reduce_level_step b a (single s j))
times_past s k (suc b) (suc j) (suc a) (level zero zero f) e =
    let c : j ≡ j + 0 = omega arith in
    times_generator s (suc k) (reduce_level b a f)
    ≡⟨ times_past s k b j a f (omega arith) ⟩
    reduce_level b a (times_generator s j f)
    ≡⟨ sym (reduce_level_step b a (times_generator s j f)) ⟩
    reduce_level (suc b) (suc a) (reduce_level 0 0 (times_generator s j f))
    ≡⟨ ap (λ (i : ℕ). reduce_level (suc b) (suc a) (reduce_level 0 0 (times_generator s i f))) c ⟩
    reduce_level (suc b) (suc a) (reduce_level 0 0 (times_generator s (j + 0) f)) ∎
times_past s k (suc b) (suc j) (suc a) (level zero (suc d) f) e =
    ap (λ (i : ℕ). reduce_level (suc b) (suc a) (times_generator s i (level 0 (suc d) f))) (sym e)
times_past s k (suc b) (suc j) (suc a) (level (suc c) d f) e =
    ap (λ (i : ℕ). reduce_level (suc b) (suc a) (times_generator s i (level (suc c) d f))) (sym e)

-- Where no reducing step applies at the first level, the exponents are those of the levels.
pub reduce_level_same : (b a : ℕ) (f : Form) → (0 < b → 0 < a → 0 < exponent b_side f 0 + exponent a_side f 0)
    → SameExponents (reduce_level b a f) (level b a f)
reduce_level_same zero zero empty h b_side zero = refl
reduce_level_same zero zero empty h a_side zero = refl
reduce_level_same zero zero empty h s (suc i) = refl
reduce_level_same zero zero (level c d f) h s i = refl
reduce_level_same zero (suc a) f h s i = refl
reduce_level_same (suc b) zero f h s i = refl
reduce_level_same (suc b) (suc a) empty h s i = absurd (omega (arith, h (omega arith) (omega arith)))
reduce_level_same (suc b) (suc a) (level zero zero f) h s i = absurd (omega (arith, h (omega arith) (omega arith)))
reduce_level_same (suc b) (suc a) (level zero (suc d) f) h s i = refl
reduce_level_same (suc b) (suc a) (level (suc c) d f) h s i = refl
