-- Hexadecimal read into bytes: two digits a byte, upper or lower case, blanks in front of, between and behind bytes.
--     hex_value c    the value of a digit, 16 for any other character
--     hex_read s     the bytes of the characters s, or the offset of the first that is out of place
-- Assumes nothing.
use Rattle.std.specs.Prelude.{ℕ, suc, ◌+◌, ◌-◌, ◌*◌, Bool, true, false, cond, List, [], ◌∷◌, ◌==◌, nat_lt}

-- The value of a digit `0` to `9`, `A` to `F`, `a` to `f`; 16 for any other character.
abbrev pub hex_value : ℕ → ℕ
hex_value c =
    cond (nat_lt c 48) 16
    (cond (nat_lt c 58) (c - 48)
    (cond (nat_lt c 65) 16
    (cond (nat_lt c 71) (c - 55)
    (cond (nat_lt c 97) 16
    (cond (nat_lt c 103) (c - 87) 16)))))

-- A space or a tab.
abbrev pub is_blank_value : ℕ → Bool
is_blank_value c = cond (c == 32) true (c == 9)

-- What characters are read as: bytes, or the offset of the first character that is out of place.
pub data HexRead : Type 0 where
  hex_bytes : List ℕ → HexRead
  stray_at : (offset : ℕ) → HexRead

-- A byte in front of what the other characters are read as.
abbrev pub byte_then : ℕ → HexRead → HexRead
byte_then x (hex_bytes s) = hex_bytes (x ∷ s)
byte_then x (stray_at offset) = stray_at offset

-- Whether a character may stand here: a blank, where no digit waits for its second.
abbrev pub parts : (high c : ℕ) → Bool
parts high c = cond (nat_lt high 16) false (is_blank_value c)

-- The characters from an offset on; `high` is the value of the digit that waits for its second, 16 where none does. A
-- digit that waits at the end has its second missing there.
unfoldable pub hex_from : (high offset : ℕ) → List ℕ → HexRead
hex_from high at [] = cond (nat_lt high 16) (stray_at at) (hex_bytes [])
hex_from high at (c ∷ s) =
    cond (nat_lt (hex_value c) 16)
    (cond (nat_lt high 16)
    (byte_then (16 * high + hex_value c) (hex_from 16 (suc at) s))
    (hex_from (hex_value c) (suc at) s))
    (cond (parts high c) (hex_from 16 (suc at) s) (stray_at at))

-- The characters of a line.
abbrev pub hex_read : List ℕ → HexRead
hex_read s = hex_from 16 0 s
