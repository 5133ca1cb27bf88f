-- The contract of the record check on every input (01, 'What the desk can be asked', 'Who caused the refusal'):
-- refusals 3, 4 and 5. Assumes nothing.
use Rattle.std.specs.Prelude.{◌≡◌, List, ℕ, ⊤, Result}
use Rattle.refusals.specs.declared.Refusal.{Refusal}
use Rattle.refusals.specs.Outcomes.{drop_value, verdict_of}
use Rattle.records.specs.Reading.{decode}
use Rattle.fields.specs.Fields.{Bytes}

-- Accepted, with nothing to say, or refused as the record is. What is lent are bytes.
pub record Checked (s : List ℕ) (r : Result ⊤ Refusal) : Type 0 where
  pub are_bytes : Bytes s
  pub result : verdict_of r ≡ drop_value (decode s)
