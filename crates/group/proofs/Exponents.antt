-- Exponents say all of a form but the levels (0, 0) at its end: trimmed forms with the same exponents are equal.
--     above f   the levels above the first
-- Assumes nothing.
use mathlib.Core.Path.{◌≡◌, refl, sym}
use Prim.Native.Nat.{ℕ, zero, suc}
use native.Mathlib.Omega.{arith}
use lib.ListN.{get_or}
use Rattle.group.specs.Forms.{Side, b_side, a_side, Form, empty, level, exponent, exponents, SameExponents, Trimmed}

abbrev pub above : Form → Form
above empty = empty
above (level b a f) = f

pub exponent_above : (s : Side) (f : Form) (i : ℕ) → exponent s (above f) i ≡ exponent s f (suc i)
exponent_above s empty i = refl
exponent_above s (level b a f) i = refl

-- The exponents of a side, read at an index.
pub exponents_at : (s : Side) (f : Form) (i : ℕ) → get_or (exponents s f) i 0 ≡ exponent s f i
exponents_at s empty i = refl
exponents_at s (level b a f) zero = refl
exponents_at s (level b a f) (suc i) = exponents_at s f i

-- Levels with the same exponents, the first and then all above it.
pub same_level : {b a c d : ℕ} (f g : Form) → b ≡ c → a ≡ d → SameExponents f g
    → SameExponents (level b a f) (level c d g)
same_level f g e h k b_side zero = e
same_level f g e h k a_side zero = h
same_level f g e h k b_side (suc i) = k b_side i
same_level f g e h k a_side (suc i) = k a_side i

pub trimmed_above : (b a : ℕ) (f : Form) → Trimmed (level b a f) → Trimmed f
trimmed_above b a empty t = tt
trimmed_above b a (level c d f) t = t

-- A trimmed form with a level has an exponent above 0.
trimmed_occurs : (b a : ℕ) (f : Form) → Trimmed (level b a f) → SameExponents (level b a f) empty → ⊥
trimmed_occurs b a empty t h = omega (arith, h b_side 0, h a_side 0)
trimmed_occurs b a (level c d f) t h = trimmed_occurs c d f t (λ s i. h s (suc i))

-- Trimmed forms with the same exponents at every index are equal.
pub trimmed_equal : (f g : Form) → Trimmed f → Trimmed g → SameExponents f g → f ≡ g
trimmed_equal empty empty t u h = refl
trimmed_equal empty (level c d g) t u h = absurd (trimmed_occurs c d g u (λ s i. sym (h s i)))
trimmed_equal (level b a f) empty t u h = absurd (trimmed_occurs b a f t h)
trimmed_equal (level b a f) (level c d g) t u h =
    let x : b ≡ c = h b_side 0 in
    let y : a ≡ d = h a_side 0 in
    let z : f ≡ g = trimmed_equal f g (trimmed_above b a f t) (trimmed_above c d g u) (λ s i. h s (suc i)) in
    cc
