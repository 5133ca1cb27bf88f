-- Calls that write at the front of a lent buffer (01, 'What the desk can be asked'): one contract for all of them.
--     fitting size x out    what was found, or refusal 7 where the buffer is shorter than the size stated
--     Placed o out out' r   the answer r is the outcome o with its bytes counted, and they stand at the front of out'
-- Assumes nothing.
use Rattle.std.specs.Prelude.{◌≡◌, cond, List, ℕ, length, ltb, Result}
use Rattle.std.proofs.lemmas.List.Edits.{sets}
use Rattle.refusals.specs.declared.Refusal.{Refusal}
use Rattle.refusals.specs.Outcomes.{Outcome, accepted, refused, after, valued, reply_of}

-- A buffer that is long enough for a size, or refusal 7.
abbrev pub fitting : {A : Type 0} → (size : ℕ) → A → List ℕ → Outcome A
fitting size x out = cond (ltb (length out) size) (refused 7 0) (accepted x)

-- The bytes of the outcome stand at the front of the buffer, and are counted in the answer; everything beyond them is
-- unchanged, and on a refusal everything is.
pub record Placed (o : Outcome (List ℕ)) (out out' : List ℕ) (r : Result ℕ Refusal) : Type 0 where
  pub result : reply_of r ≡ valued length o
  pub bytes : out' ≡ after o out (λ bytes. sets out 0 bytes)
