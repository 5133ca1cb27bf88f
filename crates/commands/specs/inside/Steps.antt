-- The answers of the functions inside, by what the calls answer and leave.
-- Inside: no claim reaches these definitions; a reader of the claims need not believe them. Assumes nothing.
use Rattle.std.specs.Prelude.{◌≡◌, Bool, List, ℕ, length, take, Result, Ok, Err}
use Rattle.refusals.specs.Refusals.{number_of, place_of}
use Rattle.refusals.specs.declared.Refusal.{Refusal}
use Rattle.refusals.specs.Outcomes.{Outcome, accepted, then}
use Rattle.appending.specs.Hexadecimal.{hex_of}
use Rattle.appending.specs.inside.Appending.{Appended}
use Rattle.commands.specs.declared.Answer.{Answer}
use Rattle.commands.specs.Answers.{Said, saying, denying, refusal_text, said, answer_size, fitted}
use Rattle.commands.specs.Words.{LineRecord}
use Rattle.commands.specs.Promises.{Says}

-- A text that was appended from the front of a buffer on is closed.
abbrev pub Closed : (end : ℕ) (denied : Bool) (out out' : List ℕ) → Answer → Type 0
Closed end denied out out' r =
    (text start : List ℕ) → length start ≡ answer_size → Appended text start 0 out end
    → Says (fitted (record { text = text; denied = denied })) out' r

-- The line of a refusal.
abbrev pub refusal_of : Refusal → List ℕ
refusal_of r = refusal_text (number_of r) (place_of r)

-- The bytes at the front of a buffer, as many as a call answers, or its refusal.
abbrev pub front_of : Outcome ℕ → List ℕ → Outcome (List ℕ)
front_of o bytes = then o (λ n. accepted (take n bytes))

-- What is said stands at the front of a buffer up to an end, or is the line of a refusal.
abbrev pub Replied : (s : Said) (out out' : List ℕ) → Result ℕ Refusal → Type 0
Replied s out out' (Ok end) = (text : List ℕ) × (s ≡ saying text) × Appended text out 0 out' end
Replied s out out' (Err r) = s ≡ denying (refusal_of r)

-- The answer to a reply.
abbrev pub Answered : Result ℕ Refusal → (out out' : List ℕ) → Answer → Type 0
Answered reply out out' r =
    (s : Said) (start : List ℕ) → length start ≡ answer_size → Replied s start out reply → Says (fitted s) out' r

-- The record of a line is put in hexadecimal, or refused.
pub record PutRecord (line out out' : List ℕ) (r : Result ℕ Refusal) : Type 0 where
  pub outcome : Outcome (List ℕ)
  pub found : LineRecord line outcome
  pub reply : Replied (said hex_of outcome) out out' r
