-- What a call comes to, in the paper's numbers: a value, or the number and the place of a refusal (01, 'Who caused the
-- refusal'). For each answer type a definition gives the outcome of each case, and contracts speak of outcomes.
--     after o old new   what was lent, at exit      valued value o   the outcome with the call's number for its value
--     verdict_of, reply_of   the outcomes of the two answer types: nothing or a refusal, a number or a refusal
-- Assumes nothing.
use Rattle.std.specs.Prelude.{ℕ, ⊤, Result, Ok, Err}
use Rattle.refusals.specs.declared.Refusal.{Refusal}
use Rattle.refusals.specs.Refusals.{number_of, place_of}

-- Accepted, with what was found, or refused, with the paper's number and place.
pub data Outcome (A : Type 0) : Type 0 where
  accepted : A → Outcome A
  refused : (number place : ℕ) → Outcome A

-- What is lent stays as it was where the call refuses, and else is what a definition gives.
abbrev pub after : {A B : Type 0} → Outcome A → B → (A → B) → B
after (accepted x) old new = new x
after (refused number place) old new = old

-- The outcome with a number in place of what was found.
abbrev pub valued : {A : Type 0} → (A → ℕ) → Outcome A → Outcome ℕ
valued value (accepted x) = accepted (value x)
valued value (refused number place) = refused number place

-- Accepted, with nothing to say.
abbrev pub drop_value : {A : Type 0} → Outcome A → Outcome ℕ
drop_value o = valued (λ x. 0) o

-- The outcome of a refusal.
abbrev pub refusal : {A : Type 0} → Refusal → Outcome A
refusal r = refused (number_of r) (place_of r)

-- A verdict has no value.
abbrev pub verdict_of : Result ⊤ Refusal → Outcome ℕ
verdict_of (Ok tt) = accepted 0
verdict_of (Err r) = refusal r

-- The value is the number: of bytes written, of letters, of carets.
abbrev pub reply_of : Result ℕ Refusal → Outcome ℕ
reply_of (Ok n) = accepted n
reply_of (Err r) = refusal r

-- A further judgement of what was found; a refusal stands.
abbrev pub then : {A B : Type 0} → Outcome A → (A → Outcome B) → Outcome B
then (accepted x) next = next x
then (refused number place) next = refused number place
