-- What an answer holds, by its outcome. Assumes nothing.
use Rattle.std.specs.Prelude.{ℕ, ◌≡◌, ⊤, Result, Ok, Err}
use mathlib.Core.Path.{refl, sym, ap}
use Rattle.refusals.specs.declared.Refusal.{Refusal}
use Rattle.refusals.specs.Outcomes.{accepted, refused, verdict_of, reply_of}
use Rattle.refusals.proofs.Outcomes.{accepted_same, accepted_refused}

-- A number where the outcome is one.
pub reply_accepted : (r : Result ℕ Refusal) (n : ℕ) → reply_of r ≡ accepted n → r ≡ Ok n
reply_accepted (Ok k) n h = ap Ok (accepted_same h)
reply_accepted (Err q) n h = absurd (accepted_refused (sym h))

-- A refusal where the outcome is one.
pub reply_refused : (r : Result ℕ Refusal) (n p : ℕ) → reply_of r ≡ refused n p → (q : Refusal) × (r ≡ Err q)
reply_refused (Ok k) n p h = absurd (accepted_refused h)
reply_refused (Err q) n p h = (q, refl)

-- The same of an answer with no value.
pub verdict_accepted : (v : Result ⊤ Refusal) (n : ℕ) → verdict_of v ≡ accepted n → v ≡ Ok tt
verdict_accepted (Ok tt) n h = refl
verdict_accepted (Err q) n h = absurd (accepted_refused (sym h))

-- The number of an answer that has one, and else 0.
abbrev pub count_in : Result ℕ Refusal → ℕ
count_in (Ok n) = n
count_in (Err r) = 0

pub count_accepted : (r : Result ℕ Refusal) (n : ℕ) → reply_of r ≡ accepted n → count_in r ≡ n
count_accepted (Ok k) n h = accepted_same h
count_accepted (Err q) n h = absurd (accepted_refused (sym h))

pub count_refused : (r : Result ℕ Refusal) (n p : ℕ) → reply_of r ≡ refused n p → count_in r ≡ 0
count_refused (Ok k) n p h = absurd (accepted_refused h)
count_refused (Err q) n p h = refl
