-- A power as a token of subscript notation (02, [1]): "A token is `x`, a decimal index without leading zeros, and
-- optionally `^` and an exponent". The tokens are the texts of powers: there is no other grammar.
--     token_text p     the token of a power           InRange p   its index and its exponent are allowed
--     WellSpelled t   the bytes t are the token of such a power
-- Assumes nothing.
use Rattle.std.specs.Prelude.{◌≡◌, cond, List, [], ◌∷◌, ◌++◌, ℕ, ◌≤◌, eqb}
use Rattle.numerals.specs.Decimals.{decimal}
use Rattle.group.specs.Forms.{Side, b_side, a_side}
use Rattle.group.specs.Limits.{limit}
use Rattle.group.specs.Powers.{SignedPower, signed_power}

-- The bytes `x`, `^`, `-` and the space.
abbrev pub x_sign : ℕ
x_sign = 120

abbrev pub power_sign : ℕ
power_sign = 94

abbrev pub minus_sign : ℕ
minus_sign = 45

abbrev pub space : ℕ
space = 32

-- The text of an exponent: nothing for exponent 1, else `^` and the decimal; on the a side `^-` and the decimal.
abbrev pub exponent_text : Side → ℕ → List ℕ
exponent_text b_side e = cond (eqb e 1) [] (power_sign ∷ decimal e)
exponent_text a_side e = power_sign ∷ minus_sign ∷ decimal e

-- The token of a power.
abbrev pub token_text : SignedPower → List ℕ
token_text (signed_power s k e) = x_sign ∷ (decimal k ++ exponent_text s e)

-- The index is at most the limit, the exponent from 1 to the limit.
abbrev pub InRange : SignedPower → Type 0
InRange (signed_power s k e) = (k ≤ limit) × (1 ≤ e) × (e ≤ limit)

-- Powers all of which are in range.
abbrev pub AllInRange : List SignedPower → Type 0
AllInRange [] = Unit {0}
AllInRange (p ∷ ps) = InRange p × AllInRange ps

-- The bytes are the token of a power in range.
pub record WellSpelled (t : List ℕ) : Type 0 where
  pub power : SignedPower
  pub in_range : InRange power
  pub text : t ≡ token_text power
