-- The contract of every answer: the text stands at the front of the buffer, and whether something was refused is told;
-- what stands behind the text is open.
--     Says s out r     the buffer and the answer say s        FittedRecord line out r   the contract of `record`
-- Assumes nothing.
use Rattle.std.specs.Prelude.{◌≡◌, List, ℕ, ◌≤◌, length, take}
use Rattle.commands.specs.declared.Answer.{Answer}
use Rattle.commands.specs.Answers.{Said, fitted}
use Rattle.commands.specs.Words.{RecordSaid}

-- The text in front, its bytes counted.
pub record Says (s : Said) (out : List ℕ) (r : Answer) : Type 0 where
  pub text : take r.bytes out ≡ s.text
  pub counted : r.bytes ≤ length out
  pub denied : r.refused ≡ s.denied

-- The answer of `record` to a line.
pub record FittedRecord (line out : List ℕ) (r : Answer) : Type 0 where
  pub what : Said
  pub found : RecordSaid line what
  pub says : Says (fitted what) out r
