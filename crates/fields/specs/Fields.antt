-- Numbers and fields in bytes (01, 'The record'): all numbers are unsigned, high byte first; a field is a one-byte tag,
-- a two-byte length, then that many bytes.
--     two_bytes x      the number x in two bytes     two_at s at         the two-byte number at an offset of the bytes
--     four_bytes x     the number x in four bytes    four_at_value s at  the four-byte number at an offset
--     field tag body   the field of a body           Bytes s             every element of s is a byte
-- Assumes nothing.
use Rattle.std.specs.Prelude.{List, [], ◌∷◌, ◌++◌, ℕ, ◌+◌, ◌*◌, ◌/◌, ◌%◌, ◌<◌, length, get_or}

-- Every element is a byte; behind the end the default 0 stands.
abbrev pub Bytes : List ℕ → Type 0
Bytes s = (i : ℕ) → get_or s i 0 < 256

-- A number in two bytes.
abbrev pub two_bytes : ℕ → List ℕ
two_bytes x = (x / 256) ∷ (x % 256) ∷ []

-- The two-byte number at an offset.
abbrev pub two_at : List ℕ → ℕ → ℕ
two_at s at = 256 * get_or s at 0 + get_or s (at + 1) 0

-- A number in four bytes.
abbrev pub four_bytes : ℕ → List ℕ
four_bytes x = two_bytes (x / 65536) ++ two_bytes (x % 65536)

-- The four-byte number at an offset.
abbrev pub four_at_value : List ℕ → ℕ → ℕ
four_at_value s at = 65536 * two_at s at + two_at s (at + 2)

-- The bytes of a field in front of its body.
abbrev pub head_size : ℕ
head_size = 3

-- A field: a one-byte tag, a two-byte length, then that many bytes.
abbrev pub field : ℕ → List ℕ → List ℕ
field tag body = tag ∷ (two_bytes (length body) ++ body)
