-- Tables that hold a form's exponents up to an index and 0 behind its last level have the record of the form.
-- Assumes nothing.
use mathlib.Core.Path.{◌≡◌, refl, ap}
use Prim.Native.Nat.{ℕ, zero, suc, ◌≤◌}
use native.Mathlib.Omega.{arith}
use Rattle.lists.specs.Tables.{values}
use Rattle.group.specs.Forms.{Side, b_side, a_side, Form, empty, level, on_side, exponent, levels, exponents}
use Rattle.records.specs.Format.{put_power, powers, record_of, encode}

-- The zeros behind the last level are no powers.
powers-values : (s : Side) (f : Form) (m i : ℕ) → levels f ≤ m
    → powers i (values m (exponent s f)) ≡ powers i (exponents s f)
unfolding values
powers-values s empty zero i h = refl
powers-values s empty (suc m) i h = powers-values s empty m (suc i) (omega arith)
powers-values s (level b a f) zero i h = absurd (omega arith)
powers-values s (level b a f) (suc m) i h =
    ap (put_power i (on_side s b a)) (powers-values s f m (suc i) (omega arith))

pub record_values : (f : Form) (m : ℕ) → levels f ≤ m
    → record_of (values m (exponent b_side f)) (values m (exponent a_side f)) ≡ encode f
record_values f m h = rw (powers-values b_side f m 0 h, powers-values a_side f m 0 h)
