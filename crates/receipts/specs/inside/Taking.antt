-- A part that was taken, as the function inside promises it.
-- Inside: no claim reaches these definitions; a reader of the claims need not believe them. Assumes nothing.
use Rattle.std.specs.Prelude.{◌≡◌, ℕ, List}
use Rattle.std.proofs.lemmas.List.Edits.{sets}
use Rattle.receipts.specs.declared.Served.{Served}
use Rattle.receipts.specs.Serving.{Amid}
use Rattle.receipts.specs.Promises.{answer_of}

-- A part was taken: the answer, the buffer of the line, and the receipts at the front of the output buffer.
pub record PartTaken (m : Amid) (out line' out' : List ℕ) (s : Served) : Type 0 where
  pub result : s ≡ answer_of m
  pub leaves_line : line' ≡ m.line
  pub leaves_out : out' ≡ sets out 0 m.receipts
