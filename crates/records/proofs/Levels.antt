-- The sum of a form's exponents, by its powers. Assumes nothing.
use mathlib.Core.Path.{◌≡◌, refl}
use Prim.Native.Nat.{ℕ, suc, ◌+◌}
use native.Mathlib.Omega.{arith}
use Rattle.group.specs.Forms.{b_side, a_side, Form, empty, level, exponents, exponent_sum}
use Rattle.records.specs.Format.{powers}
use Rattle.records.proofs.ProperPowers.{total, total_put}

-- The exponents of both sides' powers sum to the form's.
pub exponents-total : (f : Form) (i : ℕ)
    → total (powers i (exponents b_side f)) + total (powers i (exponents a_side f)) ≡ exponent_sum f
exponents-total empty i = refl
exponents-total (level b a f) i =
    omega (
      arith,
      total_put i b (powers (suc i) (exponents b_side f)),
      total_put i a (powers (suc i) (exponents a_side f)),
      exponents-total f (suc i),
    )
