-- What the lines of a list come to (02, [4]): "write the records one behind another; a refused word gives tag 0F hex,
-- length 3, refusal number (1 byte), place (2 bytes), and the others go on."
--     item o            the bytes of one line, by what it is read as        items ls   those of all lines, in order
--     list_size ls       the bytes that the output needs
--     tables_then s ls   a table, left as one call a word leaves it, one after another
-- Assumes nothing.
use Rattle.std.specs.Prelude.{List, [], ◌∷◌, ◌++◌, ℕ, ◌+◌, length}
use Rattle.group.specs.Letters.{Word}
use Rattle.group.specs.Forms.{Side}
use Rattle.refusals.specs.Outcomes.{Outcome, accepted, refused}
use Rattle.fields.specs.Fields.{two_bytes, field}
use Rattle.records.specs.Format.{buffer_size}
use Rattle.letters.specs.Judging.{line_read}
use Rattle.forest.specs.Filling.{table_after}
use Rattle.words.specs.Recording.{encode_word}

-- 0F hex, the tag of a refused word.
abbrev pub refused_tag : ℕ
refused_tag = 15

-- The record of a word; of a refused one its number in one byte and its place in two, as a field.
abbrev pub item : Outcome Word → List ℕ
item (accepted w) = encode_word w
item (refused number place) = field refused_tag (number ∷ two_bytes place)

-- The items of the lines, one behind another.
abbrev pub items : List (List ℕ) → List ℕ
items [] = []
items (l ∷ ls) = item (line_read l) ++ items ls

-- The bytes that the output needs: for each line, refused or not, those of the record of a word of its length.
abbrev pub list_size : List (List ℕ) → ℕ
list_size [] = 0
list_size (l ∷ ls) = buffer_size (length l) + list_size ls

-- A table after the lines: each accepted word fills as many entries as it has letters and one, a refused one none.
abbrev pub tables_then : Side → List (List ℕ) → List ℕ → List ℕ
tables_then s [] t = t
tables_then s (l ∷ ls) t = tables_then s ls (table_after s (line_read l) t)
