-- What the scan for a byte that is no letter promises. Assumes nothing.
use Rattle.std.specs.Prelude.{Bool, true, false, ℕ, Option, None, Some}
use Rattle.std.proofs.Math.Option.{Option as Maybe, none, some}
use Rattle.group.specs.Letters.{Letter}
use Rattle.group.specs.Texts.{letter_of}
use Rattle.group.specs.Bytes.{Reading, is_word, not_letter_is}

-- Whether there is a letter.
abbrev pub is_letter_value : Maybe Letter → Bool
is_letter_value none = false
is_letter_value (some x) = true

-- Whether a byte has a letter.
abbrev pub is_letter_at : (byte : ℕ) → Bool
is_letter_at byte = is_letter_value (letter_of byte)

-- The offset of the first byte that is no letter, where there is one.
abbrev pub not_letter_in : Reading → Option ℕ
not_letter_in (is_word w) = None
not_letter_in (not_letter_is offset) = Some offset
