-- Products of powers x_k^e and x_k^−e, in the order in which they are written (02, [1]), and the letters that they are
-- read through: "Each token is read through its letters `a`, `b` and inverses".
--     signed_generator s k    the letters of x_k (s is b_side) or of x_k⁻¹ (s is a_side)
--     signed_power s k e      x_k^e or x_k^−e             product_letters ps   the letters of a product of powers
--     exponent_sizes ps       the sum of the sizes of the exponents
--     form_powers f           the powers of a form in the form's order, one for each exponent above 0
-- Assumes nothing.
use Rattle.std.specs.Prelude.{List, [], ◌∷◌, ◌++◌, ℕ, zero, suc, ◌+◌}
use Rattle.lists.specs.Copies.{copies}
use Rattle.group.specs.Letters.{Word, inverse}
use Rattle.group.specs.Forms.{Side, b_side, a_side, Form, empty, level, generator}

-- The letters of x_k or of its inverse.
abbrev pub signed_generator : Side → ℕ → Word
signed_generator b_side k = generator k
signed_generator a_side k = inverse (generator k)

-- x_k^e on the b side, x_k^−e on the a side.
pub data SignedPower : Type 0 where
  signed_power : (side : Side) (index exponent : ℕ) → SignedPower

-- Its letters.
abbrev pub power_letters : SignedPower → Word
power_letters (signed_power s k e) = copies e (signed_generator s k)

-- The letters of a product of powers.
abbrev pub product_letters : List SignedPower → Word
product_letters [] = []
product_letters (p ∷ ps) = power_letters p ++ product_letters ps

-- The size of a power's exponent.
abbrev pub size_of : SignedPower → ℕ
size_of (signed_power s k e) = e

-- The sum of the sizes.
abbrev pub exponent_sizes : List SignedPower → ℕ
exponent_sizes [] = 0
exponent_sizes (p ∷ ps) = size_of p + exponent_sizes ps

-- A power in front of others; exponent 0 is no power.
abbrev pub put_signed : Side → (k e : ℕ) → List SignedPower → List SignedPower
put_signed s k zero ps = ps
put_signed s k (suc e) ps = signed_power s k (suc e) ∷ ps

-- The powers of the b side, indices rising; the first level has index k.
abbrev pub rising_powers : ℕ → Form → List SignedPower
rising_powers k empty = []
rising_powers k (level b a f) = put_signed b_side k b (rising_powers (suc k) f)

-- The powers of the a side, indices falling; the first level has index k.
abbrev pub falling_powers : ℕ → Form → List SignedPower
falling_powers k empty = []
falling_powers k (level b a f) = falling_powers (suc k) f ++ put_signed a_side k a []

-- The powers of a form: the b side, then the a side.
abbrev pub form_powers : Form → List SignedPower
form_powers f = rising_powers 0 f ++ falling_powers 0 f
