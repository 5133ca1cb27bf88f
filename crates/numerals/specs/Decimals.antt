-- Text as bytes, and decimal numerals (01, 'The receipt program': "numbers are decimal"; 02, [1]: "a decimal index
-- without leading zeros").
--     ascii s        the bytes of a text             decimal n     the digits of n, without zeros in front
--     value_from v d  the value of digits d behind digits of the value v
--     Numeral d      digits, at least one, and no zero in front of others
-- Assumes nothing.
use Rattle.std.specs.Prelude.{cond, List, [], ◌∷◌, ◌++◌, ℕ, zero, suc, ◌+◌, ◌-◌, ◌*◌, ◌/◌, ◌%◌, ◌≤◌, ◌<◌, ltb}
use Prim.Native.Char.{code}
use Prim.Native.String.{String, [] as []ˢ, ◌∷◌ as ◌∷ˢ◌}
use Rattle.io.specs.Digits.{hex_digit_ascii}

-- The bytes of a text: the ASCII codes of its characters.
abbrev pub ascii : String → List ℕ
ascii []ˢ = []
ascii (c ∷ˢ s) = code c ∷ ascii s

-- The digits of a number that has at most so many digits more than one.
unfoldable pub decimal_within : (most n : ℕ) → List ℕ
decimal_within zero n = hex_digit_ascii (n % 10) ∷ []
decimal_within (suc most) n =
    cond (ltb n 10) (hex_digit_ascii n ∷ []) (decimal_within most (n / 10) ++ (hex_digit_ascii (n % 10) ∷ []))

-- A number in decimal digits; it never has more digits than n and one.
abbrev pub decimal : ℕ → List ℕ
decimal n = decimal_within n n

-- A byte that is a digit.
abbrev pub Digit : ℕ → Type 0
Digit c = (48 ≤ c) × (c < 58)

-- Bytes that are digits.
abbrev pub Digits : List ℕ → Type 0
Digits [] = Unit {0}
Digits (c ∷ d) = Digit c × Digits d

-- The value of digits behind digits of the value v.
abbrev pub value_from : ℕ → List ℕ → ℕ
value_from v [] = v
value_from v (c ∷ d) = value_from (10 * v + (c - 48)) d

-- No zero stands in front of other digits.
abbrev pub Leading : List ℕ → Type 0
Leading [] = ⊥
Leading (c ∷ []) = Unit {0}
Leading (c ∷ e ∷ d) = 48 < c

-- A numeral: digits, at least one of them, and no zero in front of others.
pub record Numeral (d : List ℕ) : Type 0 where
  pub digits : Digits d
  pub leading : Leading d
