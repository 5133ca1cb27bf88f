-- Characters taken one by one, and what is kept between two parts of a line: the buffer of the bytes, how many are
-- held, the digit that waits, the characters so far.
--     hex_step     one character more          hex_take   the characters of a part        take_parts   those of the parts
--     ended_as     what a line is read as      cut_read   its bytes, cut to the first
-- Assumes nothing.
use Rattle.std.specs.Prelude.{ℕ, ◌+◌, ◌*◌, ◌%◌, ◌^◌, Bool, true, false, cond, Option, Some, None}
use Rattle.std.specs.Prelude.{List, [], ◌∷◌, take, nat_lt}
use Rattle.std.specs.Option.{is_some}
use Rattle.lines.specs.Feeding.{kept_line, kept_count}
use Rattle.hexadecimal.specs.declared.Amid.{Amid}
use Rattle.hexadecimal.specs.Hexadecimal.{hex_value, is_blank_value, HexRead, hex_bytes, stray_at}

-- The buffer of the bytes, and the rest of what is kept.
pub record Taken : Type 0 where
  pub bytes : List ℕ
  pub amid : Amid

abbrev pub taken : List ℕ → Amid → Taken
taken bytes m = record { bytes = bytes; amid = m }

-- The value of a digit; none for any other character.
abbrev pub digit_value : ℕ → Option ℕ
digit_value c = cond (nat_lt (hex_value c) 16) (Some (hex_value c)) None

-- The next offset, in 64 bits.
abbrev pub next_offset : ℕ → ℕ
next_offset offset = (offset + 1) % 2 ^ 64

-- What is kept, from its parts, where no character was out of place.
abbrev pub amid_with : (held : ℕ) (high : Option ℕ) (offset : ℕ) → Amid
amid_with held high offset = record { held = held; high = high; offset = offset; stray = false }

-- Before the first character.
abbrev pub begun : Amid
begun = amid_with 0 None 0

-- With one digit more, behind the digit that waits.
abbrev pub digit_behind : Option ℕ → List ℕ → Amid → ℕ → Taken
digit_behind (Some high) bytes m v =
    taken (kept_line bytes m.held (16 * (high % 16) + v))
    (amid_with (kept_count bytes m.held) None (next_offset m.offset))
digit_behind None bytes m v = taken bytes (amid_with m.held (Some v) (next_offset m.offset))

-- With one digit more.
abbrev pub with_digit : List ℕ → Amid → ℕ → Taken
with_digit bytes m v = digit_behind m.high bytes m v

-- With a character that is out of place.
abbrev pub strayed : Amid → Amid
strayed m = record { held = m.held; high = m.high; offset = m.offset; stray = true }

-- Whether a character may stand here: a blank, where no digit waits for its second.
abbrev pub parts_at : Option ℕ → ℕ → Bool
parts_at high c = cond (is_some high) false (is_blank_value c)

-- With one character more.
abbrev pub hex_step : List ℕ → Amid → ℕ → Taken
hex_step bytes m c =
    cond m.stray (taken bytes m)
    (cond (nat_lt (hex_value c) 16) (with_digit bytes m (hex_value c))
    (cond (parts_at m.high c) (taken bytes (amid_with m.held None (next_offset m.offset))) (taken bytes (strayed m))))

-- With the characters of a part.
unfoldable pub hex_take : (chars bytes : List ℕ) → Amid → Taken
hex_take [] bytes m = taken bytes m
hex_take (c ∷ s) bytes m = hex_take s (hex_step bytes m c).bytes (hex_step bytes m c).amid

-- With the parts of a line, each from what the one before left.
abbrev pub take_parts : (parts : List (List ℕ)) (bytes : List ℕ) → Amid → Taken
take_parts [] bytes m = taken bytes m
take_parts (part ∷ rest) bytes m = take_parts rest (hex_take part bytes m).bytes (hex_take part bytes m).amid

-- What a line is read as, behind its last character: the bytes that are held, or the offset of the first character that
-- is out of place or missing.
abbrev pub ended_as : List ℕ → Amid → HexRead
ended_as bytes m =
    cond m.stray (stray_at m.offset)
    (cond (is_some m.high) (stray_at m.offset) (hex_bytes (take m.held bytes)))

-- The bytes of a line, cut to their first k.
abbrev pub cut_read : ℕ → HexRead → HexRead
cut_read k (hex_bytes s) = hex_bytes (take k s)
cut_read k (stray_at offset) = stray_at offset
