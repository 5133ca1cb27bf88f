-- Bytes as text (01, 'The receipt program'): bytes are in lower-case hexadecimal.
--     hex_of s   two digits for each byte
-- Assumes nothing.
use Rattle.std.specs.Prelude.{List, [], ◌∷◌, ℕ, ◌/◌, ◌%◌}
use Rattle.io.specs.Digits.{hex_digit_ascii}

-- Bytes in hexadecimal digits, two each, `a` to `f` in lower case.
abbrev pub hex_of : List ℕ → List ℕ
hex_of [] = []
hex_of (x ∷ s) = hex_digit_ascii (x / 16) ∷ hex_digit_ascii (x % 16) ∷ hex_of s
