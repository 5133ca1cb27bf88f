-- What is said of a line in hexadecimal: of its bytes, or of the character that is out of place. Assumes nothing.
use mathlib.Core.Path.{◌≡◌, sym}
use mathlib.Core.List.{[], ◌∷◌, ◌++◌, append_assoc}
use Prim.Native.Nat.{ℕ}
use Rattle.lines.specs.Lines.{line_feed}
use Rattle.numerals.specs.Decimals.{ascii, decimal}
use Rattle.commands.specs.Records.{stray_text}

-- The pieces of the line, one behind another.
pub stray_pieces : (offset : ℕ)
    → ascii "not hexadecimal at " ++ (decimal offset ++ (line_feed ∷ [])) ≡ stray_text offset
stray_pieces offset = sym (append_assoc (ascii "not hexadecimal at ") (decimal offset) (line_feed ∷ []))
