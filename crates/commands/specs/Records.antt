-- What is answered of a record, by the question (the words `check`, `word`, `text`, `length`, `label-length`, `pair`).
--     record_said q s   of the bytes s                     hex_said q line   of a line in hexadecimal
-- Assumes nothing.
use Rattle.std.specs.Prelude.{cond, List, [], ◌∷◌, ◌++◌, ℕ, eqb, ltb, length}
use Rattle.numerals.specs.Decimals.{ascii, decimal}
use Rattle.group.specs.Bytes.{bytes_of}
use Rattle.group.specs.Forms.{Form}
use Rattle.refusals.specs.Outcomes.{Outcome, accepted, refused, then}
use Rattle.records.specs.Reading.{decode}
use Rattle.trees.specs.Pairs.{carets_of, minus_tree, plus_tree}
use Rattle.trees.specs.Shapes.{shape}
use Rattle.lengths.specs.Weights.{form_length}
use Rattle.spelling.specs.Promises.{spelled_in}
use Rattle.notation.specs.Promises.{form_text}
use Rattle.pairs.specs.Promises.{paired_in, label_sum}
use Rattle.hexadecimal.specs.Hexadecimal.{HexRead, hex_bytes, stray_at}
use Rattle.commands.specs.declared.Question.{Question}
use Rattle.commands.specs.declared.Question.TheVariants.{Check, Word, Text, Length, LabelLength, Pair}
use Rattle.commands.specs.Answers.{Said, denying, line_of, said, room_size}

-- A digit for each byte of a shape: `1` for a caret, `0` for a leaf.
abbrev pub digits_of : List ℕ → List ℕ
digits_of [] = []
digits_of (x ∷ s) = cond (eqb x 0) 48 49 ∷ digits_of s

-- A number and two shapes, one space apart.
abbrev pub pair_line : ℕ → List ℕ → List ℕ → List ℕ
pair_line n s t = decimal n ++ (32 ∷ (digits_of s ++ (32 ∷ digits_of t)))

-- N, the shape of T− and the shape of T+.
abbrev pub pair_text : Form → List ℕ
pair_text f = pair_line (carets_of f) (shape (minus_tree f)) (shape (plus_tree f))

-- The text of a record's form, or 7 where it has more bytes than there is room for.
abbrev pub text_of_record : List ℕ → Outcome (List ℕ)
text_of_record s =
    then (decode s) (λ f. cond (ltb room_size (length (form_text f))) (refused 7 0) (accepted (form_text f)))

-- The answer to each question.
abbrev pub record_said : Question → List ℕ → Said
record_said Check s = said (λ f. ascii "accepted") (decode s)
record_said Word s = said bytes_of (spelled_in s room_size)
record_said Text s = said (λ t. t) (text_of_record s)
record_said Length s = said (λ f. decimal (form_length f)) (decode s)
record_said LabelLength s = said (λ f. decimal (label_sum f)) (decode s)
record_said Pair s = said pair_text (paired_in s room_size room_size)

-- The line for characters that are no hexadecimal.
abbrev pub stray_text : ℕ → List ℕ
stray_text offset = line_of (ascii "not hexadecimal at " ++ decimal offset)

-- The answer of what characters are read as.
abbrev pub hex_said : Question → HexRead → Said
hex_said q (hex_bytes s) = record_said q s
hex_said q (stray_at offset) = denying (stray_text offset)
