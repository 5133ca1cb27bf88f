-- The receipt program (01, 'The receipt program'), over the contracts of its calls; proofs/Receipts.antt has the
-- proofs, under the same names in snake case. What the claims speak of, and where it is defined:
--     lines_of s           the lines of the bytes s; join_lines, line_feed, cut_to, whole_of    lines, Lines
--     meet_lines, met_in   the lines that are met in a part, in the parts of an input           lines, Feeding
--     receipt_of k line    the receipt of line k; receipts_from, header, output_of              receipts, Receipts
--     served s k line held what becomes of a part: its receipts, and what is kept               receipts, Serving
--     Begun, ServedPart, Finished   the contracts of begin, serve and finish                    receipts, Promises
--     serving_of, reply_of the answers as accepted or refused            receipts, Promises; refusals, Outcomes
-- Assumes nothing.
use Rattle.std.specs.Prelude.{◌≡◌, List, [], ◌∷◌, ◌++◌, ◌⊎◌, ℕ, ◌+◌, ◌<◌, ◌≤◌, ◌^◌, length, take, Result}
use Rattle.refusals.specs.declared.Refusal.{Refusal}
use Rattle.lists.specs.Entries.{At}
use Rattle.group.specs.Limits.{limit}
use Rattle.refusals.specs.Outcomes.{accepted, reply_of}
use Rattle.lines.specs.Lines.{line_feed, lines_of, join_lines, cut_to, whole_of}
use Rattle.lines.specs.Feeding.{meet_lines, met_in}
use Rattle.rows.specs.Receipts.{receipt_of, receipts_from, output_of}
use Rattle.receipts.specs.Serving.{served}
use Rattle.receipts.specs.Promises.{Begun, ServedPart, Finished, serving_of}
use Rattle.receipts.specs.declared.Served.{Served}

-- The lines of bytes hold no line feed; each ended by one, they are the bytes, or the bytes with one more line feed
-- behind them, where the last line is not empty and has no end.
pub record LinesOfBytes : Type 0 where
  pub no_line_feed : (s l : List ℕ) (k : ℕ) → At (lines_of s) k l → (i : ℕ) → At l i line_feed → ⊥
  pub joined : (s : List ℕ) → (join_lines (lines_of s) ≡ s)
      ⊎ ((x : ℕ) × (r : List ℕ) × (x ≡ line_feed → ⊥) × (s ≡ r ++ (x ∷ []))
      × (join_lines (lines_of s) ≡ s ++ (line_feed ∷ [])))

-- However an input is parted: the lines that are met in its parts, each part from what the one before left, are those
-- of the whole, each cut to the size of the line buffer.
abbrev pub LinesInParts : Type 0
LinesInParts =
    (parts : List (List ℕ)) (line : List ℕ) → 0 < length line
    → met_in parts line 0 ≡ cut_to (length line) (lines_of (whole_of parts))

-- What `serve` writes of a part is the receipts of the lines that are met in it, where no number wraps, and it leaves
-- the line buffer and the count as they are left there.
pub record ServesMetLines : Type 0 where
  pub receipts : (s : List ℕ) (number : ℕ) (line : List ℕ) (held : ℕ) → number + length s ≤ 2 ^ 64
      → (served s number line held).receipts ≡ receipts_from number (meet_lines s line held).lines
  pub leaves : (s : List ℕ) (number : ℕ) (line : List ℕ) (held : ℕ)
      → ((served s number line held).line ≡ (meet_lines s line held).line)
      × ((served s number line held).held ≡ (meet_lines s line held).held)

-- A line cut to one byte more than the limit has the receipt of the whole line.
abbrev pub CutKeepsReceipt : Type 0
CutKeepsReceipt = (number : ℕ) (line : List ℕ) → receipt_of number (take (limit + 1) line) ≡ receipt_of number line

-- One call of `serve` that takes a part: what it wrote, and the number, the count and the line buffer that it left.
pub record ServeCall (part : List ℕ) (number held : ℕ) (line : List ℕ) (s : Served) (line' bytes : List ℕ)
    : Type 0 where
  pub out : List ℕ
  pub out' : List ℕ
  pub answer : Result Served Refusal
  pub contract : ServedPart part number held line out line' out' answer
  pub taken : serving_of answer ≡ accepted s
  pub wrote : bytes ≡ take s.written out'

-- A call of `finish` that is not refused, and what it wrote.
pub record FinishCall (number held : ℕ) (line bytes : List ℕ) : Type 0 where
  pub out : List ℕ
  pub out' : List ℕ
  pub answer : Result ℕ Refusal
  pub count : ℕ
  pub contract : Finished number held line out out' answer
  pub taken : reply_of answer ≡ accepted count
  pub wrote : bytes ≡ take count out'

-- The calls of a run, one for each part of an input and `finish` behind the last: each is handed the number, the count
-- and the line buffer as the call before left them. `bytes` is what they wrote, one behind another.
abbrev pub CallsOfRun : (parts : List (List ℕ)) (number held : ℕ) (line bytes : List ℕ) → Type 0
CallsOfRun [] number held line bytes = FinishCall number held line bytes
CallsOfRun (part ∷ parts) number held line bytes =
    (s : Served) × (line' : List ℕ) × (first : List ℕ) × (rest : List ℕ)
    × ServeCall part number held line s line' first × CallsOfRun parts s.number s.held line' rest
    × (bytes ≡ first ++ rest)

-- However an input of fewer than 2^64 bytes is parted, and whatever the buffers held: the header and what the calls of
-- a run write are the output for the whole input.
abbrev pub ReceiptsOfInput : Type 0
ReceiptsOfInput =
    (parts : List (List ℕ)) (line out out' bytes : List ℕ) (r : Result ℕ Refusal) (n : ℕ)
    → length line ≡ limit + 1 → length (whole_of parts) < 2 ^ 64
    → Begun out out' r → reply_of r ≡ accepted n → CallsOfRun parts 1 0 line bytes
    → take n out' ++ bytes ≡ output_of (whole_of parts)
