-- What a text is read as (02, [1]): the powers of its tokens, or refusal 9 at the first misspelled token, or, where
-- none is misspelled, refusal 10. Assumes nothing.
use Rattle.std.specs.Prelude.{◌≡◌, List, ℕ, ◌≤◌, ◌<◌}
use Rattle.group.specs.Limits.{limit}
use Rattle.group.specs.Powers.{SignedPower, exponent_sizes}
use Rattle.refusals.specs.Outcomes.{Outcome, accepted, refused}
use Rattle.tokens.specs.Tokens.{AllInRange}
use Rattle.tokens.specs.Texts.{text_of, FirstMisspelled}

-- A misspelled token; sizes that sum above the limit; else the powers whose text it is. A text is read in one way
-- (proofs/Readings.antt).
pub data TextRead (t : List ℕ) : Outcome (List SignedPower) → Type 0 where
  misspelled : (place : ℕ) → FirstMisspelled t place → TextRead t (refused 9 place)
  large : (ps : List SignedPower) → AllInRange ps → t ≡ text_of ps → limit < exponent_sizes ps → TextRead t (refused 10 0)
  read : (ps : List SignedPower) → AllInRange ps → t ≡ text_of ps → exponent_sizes ps ≤ limit → TextRead t (accepted ps)
