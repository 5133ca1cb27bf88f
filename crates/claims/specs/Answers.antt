-- What the demands say of every call's answer (01, 'Who caused the refusal'): it is a refusal just under that refusal's
-- condition. The conditions are given by a relation R: R number place is that of the refusal with this number and
-- place.
--     None R                      no condition holds
--     IsRefused o, IsAccepted o   the outcome o is a refusal; a value
--     Refuses o R                 o is a refusal just under its condition, and a value where none holds
--     WordRefused d, Answered d   the decision d on two words is a refusal; same, inverse or different
--     RefusesWords d R S          the same of d: the conditions R of the first word, then S of the second
-- Assumes nothing.
use Rattle.std.specs.Prelude.{◌≡◌, ◌⊎◌, ◌↔◌, ℕ}
use Rattle.refusals.specs.Outcomes.{Outcome, accepted, refused}
use Rattle.comparisons.specs.Comparing.{Decision, same, inverse, different, refused_word}

-- No refusal's condition holds.
abbrev pub None : (ℕ → ℕ → Type 0) → Type 0
None R = (number place : ℕ) → R number place → ⊥

-- The call refused.
abbrev pub IsRefused : Outcome ℕ → Type 0
IsRefused o = (number place : ℕ) × (o ≡ refused number place)

-- The call accepted.
abbrev pub IsAccepted : Outcome ℕ → Type 0
IsAccepted o = (value : ℕ) × (o ≡ accepted value)

-- Each refusal is given under its condition and at no other time, and with none the call accepts.
pub record Refuses (o : Outcome ℕ) (R : ℕ → ℕ → Type 0) : Type 0 where
  pub refused_just_when : (number place : ℕ) → (o ≡ refused number place) ↔ R number place
  pub accepted_just_when : IsAccepted o ↔ None R

-- The two-word call refused one of its words.
abbrev pub WordRefused : Decision → Type 0
WordRefused d = (word number place : ℕ) × (d ≡ refused_word word number place)

-- It answered.
abbrev pub Answered : Decision → Type 0
Answered d = (d ≡ same) ⊎ (d ≡ inverse) ⊎ (d ≡ different)

-- The same for two words, 0 and 1, with the conditions R of the first and S of the second: the first word's refusals
-- come first.
pub record RefusesWords (d : Decision) (R S : ℕ → ℕ → Type 0) : Type 0 where
  pub first_just_when : (number place : ℕ) → (d ≡ refused_word 0 number place) ↔ R number place
  pub second_just_when : (number place : ℕ) → (d ≡ refused_word 1 number place) ↔ (None R × S number place)
  pub answered_just_when : Answered d ↔ (None R × None S)
