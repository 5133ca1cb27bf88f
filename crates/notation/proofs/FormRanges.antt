-- The powers of a form within the limits are in range, so that its text is well spelled (02, [1]). Assumes nothing.
use mathlib.Core.List.{List, [], ◌∷◌, ◌++◌}
use Prim.Native.Nat.{ℕ, zero, suc, ◌+◌, ◌≤◌, ◌<◌}
use native.Mathlib.Omega.{arith}
use Rattle.group.specs.Forms.{Side, b_side, a_side, Form, empty, level, exponent, exponent_sum}
use Rattle.group.specs.Limits.{limit}
use Rattle.group.specs.Powers.{SignedPower, put_signed, rising_powers, falling_powers, form_powers}
use Rattle.records.specs.Format.{Within}
use Rattle.tokens.specs.Tokens.{AllInRange}

-- Powers behind powers.
range_append : (ps qs : List SignedPower) → AllInRange ps → AllInRange qs → AllInRange (ps ++ qs)
range_append [] qs h k = k
range_append (p ∷ ps) qs h k = (h.0, range_append ps qs h.1 k)

-- A power in front of others.
range_put : (s : Side) (k e : ℕ) (ps : List SignedPower) → (0 < e → (k ≤ limit) × (e ≤ limit)) → AllInRange ps
    → AllInRange (put_signed s k e ps)
range_put s k zero ps h r = r
range_put s k (suc e) ps h r = let low = h (omega arith) in ((low.0, omega arith, low.1), r)

-- What is asked of a form whose first level has index k.
abbrev Allowed : ℕ → Form → Type 0
Allowed k f = (s : Side) (i : ℕ) → 0 < exponent s f i → (k + i ≤ limit) × (exponent s f i ≤ limit)

-- The first level, and the levels above it.
first_allowed : (s : Side) (k b a : ℕ) (f : Form) → Allowed k (level b a f) → 0 < exponent s (level b a f) 0
    → (k ≤ limit) × (exponent s (level b a f) 0 ≤ limit)
first_allowed s k b a f h some = let low = h s 0 some in (omega (arith, low.0), low.1)

above_allowed : (k b a : ℕ) (f : Form) → Allowed k (level b a f) → Allowed (suc k) f
above_allowed k b a f h s i some = let low = h s (suc i) some in (omega (arith, low.0), low.1)

rising_range : (k : ℕ) (f : Form) → Allowed k f → AllInRange (rising_powers k f)
rising_range k empty h = tt
rising_range k (level b a f) h =
    range_put b_side k b (rising_powers (suc k) f) (first_allowed b_side k b a f h)
    (rising_range (suc k) f (above_allowed k b a f h))

falling_range : (k : ℕ) (f : Form) → Allowed k f → AllInRange (falling_powers k f)
falling_range k empty h = tt
falling_range k (level b a f) h =
    range_append (falling_powers (suc k) f) (put_signed a_side k a [])
    (falling_range (suc k) f (above_allowed k b a f h))
    (range_put a_side k a [] (first_allowed a_side k b a f h) tt)

-- An exponent is at most the sum of all.
exponent_low : (s : Side) (f : Form) (i : ℕ) → exponent s f i ≤ exponent_sum f
exponent_low s empty i = omega arith
exponent_low b_side (level b a f) zero = omega arith
exponent_low a_side (level b a f) zero = omega arith
exponent_low s (level b a f) (suc i) = omega (arith, exponent_low s f i)

-- The powers of a form within the limits.
pub form_in_range : (f : Form) → Within f → AllInRange (form_powers f)
form_in_range f w = range_append (rising_powers 0 f) (falling_powers 0 f) (rising_range 0 f all) (falling_range 0 f all)
  where
    all : Allowed 0 f
    all s i some = (omega (arith, w.indices s i some), omega (arith, exponent_low s f i, w.sum))
