-- A line of any length is answered in fixed memory (the manual, 'thompsonf'): it is kept up to a size above all that
-- can be accepted, as the receipt program keeps its lines (01, 'The receipt program'), and its answer is that of the
-- whole line.
--     CutKeepsItem, CutKeepsTwoWords, CutKeepsRecord   the first k bytes of a line are answered as the whole line
--     HexInParts      hexadecimal that comes in parts, its bytes cut to a buffer's size, is answered as the whole line
--     longest_frame    the most bytes that two fields frame
-- Assumes nothing.
use Rattle.std.specs.Prelude.{◌≡◌, List, ◌↔◌, ℕ, ◌+◌, ◌*◌, ◌^◌, ◌<◌, length, take}
use Rattle.lines.specs.Lines.{whole_of}
use Rattle.group.specs.Limits.{limit}
use Rattle.records.specs.Format.{base_size}
use Rattle.hexadecimal.specs.Hexadecimal.{hex_read}
use Rattle.hexadecimal.specs.Taking.{begun, take_parts, ended_as}
use Rattle.commands.specs.declared.Question.{Question}
use Rattle.commands.specs.Answers.{Said}
use Rattle.commands.specs.Records.{hex_said}
use Rattle.commands.specs.Words.{item_said, same_line_said, text_most, RecordSaid}

-- A line of `list` that is cut behind more bytes than a word has letters has the answer of the whole line.
abbrev pub CutKeepsItem : Type 0
CutKeepsItem = (k : ℕ) (line : List ℕ) → limit < k → item_said (take k line) ≡ item_said line

-- A line of `same` that is cut behind more bytes than two words and the blank between them.
abbrev pub CutKeepsTwoWords : Type 0
CutKeepsTwoWords = (k : ℕ) (line : List ℕ) → 2 * limit + 1 < k → same_line_said (take k line) ≡ same_line_said line

-- A line of `record` that is cut behind more bytes than a text that is read.
abbrev pub CutKeepsRecord : Type 0
CutKeepsRecord =
    (k : ℕ) (line : List ℕ) → text_most < k → (s : Said) → RecordSaid (take k line) s ↔ RecordSaid line s

-- The most bytes that two fields frame: a two-byte length is at most 65,535.
abbrev pub longest_frame : ℕ
longest_frame = base_size + 2 * 65535

-- A line in hexadecimal whose parts are taken into a buffer that is longer, whatever it held.
abbrev pub HexInParts : Type 0
HexInParts =
    (q : Question) (parts : List (List ℕ)) (bytes : List ℕ) → longest_frame < length bytes
    → length (whole_of parts) < 2 ^ 64
    → hex_said q (ended_as (take_parts parts bytes begun).bytes (take_parts parts bytes begun).amid)
    ≡ hex_said q (hex_read (whole_of parts))
