-- The contracts of the three calls of the receipt program, on every input: `begin` writes the header, `serve` takes a
-- part of the input, `finish` is called behind the last part. Refusal 7: the output buffer is too short for the size
-- stated. Assumes nothing.
use Rattle.std.specs.Prelude.{◌≡◌, ℕ, List, length, take, Result, Ok, Err}
use Rattle.std.proofs.lemmas.List.Edits.{sets}
use Rattle.refusals.specs.declared.Refusal.{Refusal}
use Rattle.lines.specs.Lines.{last_line}
use Rattle.refusals.specs.Outcomes.{Outcome, accepted, after, then, refusal}
use Rattle.refusals.specs.Placing.{fitting, Placed}
use Rattle.receipts.specs.declared.Served.{Served}
use Rattle.rows.specs.Receipts.{header, receipts_from, receipt_size}
use Rattle.receipts.specs.Serving.{Amid, line_size, served, part_size}

-- The header.
abbrev pub Begun : (out out' : List ℕ) → Result ℕ Refusal → Type 0
Begun out out' r = Placed (fitting (length header) header out) out out' r

-- The receipt of an unended last line, or nothing where no byte is held.
abbrev pub Finished : (number held : ℕ) (line out out' : List ℕ) → Result ℕ Refusal → Type 0
Finished number held line out out' r =
    Placed (fitting (receipt_size line_size) (receipts_from number (last_line (take held line))) out) out out' r

-- The outcome of each answer of `serve`.
abbrev pub serving_of : Result Served Refusal → Outcome Served
serving_of (Ok s) = accepted s
serving_of (Err r) = refusal r

-- What `serve` answers of what is kept: the bytes of the receipts are counted.
abbrev pub answer_of : Amid → Served
answer_of m = record { number = m.number; held = m.held; written = length m.receipts }

-- What becomes of a part of the input.
abbrev pub served_in : (part : List ℕ) (number held : ℕ) (line out : List ℕ) → Outcome Amid
served_in part number held line out = fitting (part_size (length part)) (served part number line held) out

-- The receipts stand at the front of the buffer; everything beyond is unchanged.
pub record ServedPart (part : List ℕ) (number held : ℕ) (line out line' out' : List ℕ)
    (r : Result Served Refusal) : Type 0 where
  pub result : serving_of r ≡ then (served_in part number held line out) (λ m. accepted (answer_of m))
  pub leaves_line : line' ≡ after (served_in part number held line out) line (λ m. m.line)
  pub leaves_out : out' ≡ after (served_in part number held line out) out (λ m. sets out 0 m.receipts)
