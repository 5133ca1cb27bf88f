-- The receipt of a line, and of an input (01, 'The receipt program').
--     receipt_of k line    line k of the receipt program's output, without the header
--     output_of s          all that the program writes for the input s
-- Assumes nothing.
use Rattle.std.specs.Prelude.{List, [], ◌∷◌, ◌++◌, ℕ, suc, ◌+◌, ◌*◌, length}
use Rattle.lines.specs.Lines.{line_feed, lines_of}
use Rattle.group.specs.Letters.{Word}
use Rattle.group.specs.Forms.{Form}
use Rattle.group.specs.Products.{form_of}
use Rattle.refusals.specs.Outcomes.{Outcome, accepted, refused}
use Rattle.records.specs.Format.{encode, buffer_size}
use Rattle.trees.specs.Pairs.{carets_of}
use Rattle.lengths.specs.Weights.{form_length}
use Rattle.letters.specs.Judging.{line_read}
use Rattle.numerals.specs.Decimals.{ascii, decimal}
use Rattle.appending.specs.Hexadecimal.{hex_of}

-- One space parts the fields of a line, and byte 0A hex ends it.
abbrev pub join_fields : List (List ℕ) → List ℕ
join_fields [] = line_feed ∷ []
join_fields (field ∷ []) = field ++ (line_feed ∷ [])
join_fields (field ∷ next ∷ fields) = field ++ (32 ∷ join_fields (next ∷ fields))

-- The header.
abbrev pub header : List ℕ
header = join_fields (ascii "line" ∷ ascii "letters" ∷ ascii "carets" ∷ ascii "length" ∷ ascii "record" ∷ [])

-- Line number, letters, N, length, record.
abbrev pub form_receipt : (number letters : ℕ) → Form → List ℕ
form_receipt number letters f =
    join_fields
    (decimal number ∷ decimal letters ∷ decimal (carets_of f) ∷ decimal (form_length f) ∷ hex_of (encode f) ∷ [])

-- Line number, `refused`, number, place.
abbrev pub refusal_receipt : (number refusal place : ℕ) → List ℕ
refusal_receipt number refusal place =
    join_fields (decimal number ∷ ascii "refused" ∷ decimal refusal ∷ decimal place ∷ [])

-- The receipt of a line by what it is read as.
abbrev pub receipt_by : ℕ → Outcome Word → List ℕ
receipt_by number (accepted w) = form_receipt number (length w) (form_of w)
receipt_by number (refused refusal place) = refusal_receipt number refusal place

-- The receipt of a line.
abbrev pub receipt_of : (number : ℕ) (line : List ℕ) → List ℕ
receipt_of number line = receipt_by number (line_read line)

-- The most bytes of the receipt of a line of n bytes: four numbers of 20 digits at most, five bytes between and behind
-- the fields, and two digits for each byte of the record.
abbrev pub receipt_size : ℕ → ℕ
receipt_size n = 85 + 2 * buffer_size n

-- The receipts of lines, the first of which has the number.
abbrev pub receipts_from : ℕ → List (List ℕ) → List ℕ
receipts_from number [] = []
receipts_from number (line ∷ lines) = receipt_of number line ++ receipts_from (suc number) lines

-- The header and the receipts of all lines of an input, numbered from 1.
abbrev pub output_of : List ℕ → List ℕ
output_of s = header ++ receipts_from 1 (lines_of s)
