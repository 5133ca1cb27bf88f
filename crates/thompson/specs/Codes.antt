-- Outcomes as two numbers, for C and Rust: a refusal's number and place, or 0 and the call's value; a filing has four.
--     code_of, code_of_decision  the two numbers of an outcome, of a decision on two words
--     outcome_of, decision_in    what a caller reads in the two numbers
--     code_of_reply, reply_in    the four numbers of a filing, and what a caller reads in them
--     Passed code contract r     the contract of every exported call, over the contract of the call it passes on to
-- Assumes nothing.
use Rattle.std.specs.Prelude.{◌≡◌, ℕ, zero, suc, ◌+◌, ◌*◌, ◌/◌, ◌%◌, Result}
use Rattle.refusals.specs.declared.Refusal.{Refusal}
use Rattle.updates.specs.declared.Account.{Account}
use Rattle.refusals.specs.Outcomes.{Outcome, accepted, refused, valued}
use Rattle.comparisons.specs.Comparing.{Decision, same, inverse, different, refused_word}
use Rattle.updates.specs.Accounts.{account_of}
use Rattle.updates.specs.Entering.{Reply, new_entry, present, reply_number}
use Rattle.thompson.specs.declared.Answer.{Answer}
use Rattle.thompson.specs.declared.Filing.{Filing}

-- The two numbers of an answer.
abbrev pub answer : (refusal value : ℕ) → Answer
answer refusal value = record { refusal = refusal; value = value }

-- The two numbers of an outcome.
abbrev pub code_of : Outcome ℕ → Answer
code_of (accepted value) = answer 0 value
code_of (refused number place) = answer number place

-- The two numbers of a decision: 1 same, 2 inverse, 0 different; 256 times the word (0 or 1) is added to a refusal's
-- number.
abbrev pub code_of_decision : Decision → Answer
code_of_decision same = answer 0 1
code_of_decision inverse = answer 0 2
code_of_decision different = answer 0 0
code_of_decision (refused_word word number place) = answer (256 * word + number) place

-- What a caller reads: 0 for a refusal is no refusal, and the other number is the value.
abbrev pub read_outcome : (refusal value : ℕ) → Outcome ℕ
read_outcome zero value = accepted value
read_outcome (suc n) place = refused (suc n) place

abbrev pub outcome_of : Answer → Outcome ℕ
outcome_of r = read_outcome r.refusal r.value

-- Of two words: 1 is same, 2 inverse, 0 different; the word, 0 or 1, is how often 256 is in a refusal.
abbrev pub read_decision : (refusal value : ℕ) → Decision
read_decision zero zero = different
read_decision zero (suc zero) = same
read_decision zero (suc (suc value)) = inverse
read_decision (suc n) place = refused_word (suc n / 256) (suc n % 256) place

abbrev pub decision_in : Answer → Decision
decision_in r = read_decision r.refusal r.value

-- The live count of a holder's account.
abbrev pub live_of : Result Account Refusal → Outcome ℕ
live_of a = valued (λ x. x.live) (account_of a)

-- The four numbers of a filing.
abbrev pub filing : (refusal value held word : ℕ) → Filing
filing refusal value held word = record { refusal = refusal; value = value; present = held; word = word }

-- 1 where the entry held the element before, 0 where it is new.
abbrev pub presence : Reply → ℕ
presence (new_entry k) = 0
presence (present k) = 1

-- A refusal's number and place, or 0 and the entry's number with its presence; one word is filed, so its place is 0.
abbrev pub code_of_reply : Outcome Reply → Filing
code_of_reply (accepted y) = filing 0 (reply_number y) (presence y) 0
code_of_reply (refused number place) = filing number place 0 0

-- What a caller reads: 0 for a refusal is no refusal, and then 0 for presence is a new entry.
abbrev pub read_reply : (refusal value held : ℕ) → Outcome Reply
read_reply zero value zero = accepted (new_entry value)
read_reply zero value (suc n) = accepted (present value)
read_reply (suc n) place held = refused (suc n) place

abbrev pub reply_in : Filing → Outcome Reply
reply_in r = read_reply r.refusal r.value r.present

-- An exported call passes an answer on: its numbers are those of an answer that meets the contract of the call.
pub record Passed {A C : Type 0} (code : A → C) (contract : A → Type 0) (r : C) : Type 0 where
  pub passed : A
  pub numbers : r ≡ code passed
  pub meets : contract passed
