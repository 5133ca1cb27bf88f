-- The contract of the reader of texts: the powers of the text stand in three arrays. Assumes nothing.
use Rattle.std.specs.Prelude.{◌≡◌, List, ℕ, ◌≤◌, length, take, Result, Ok, Err}
use Rattle.refusals.specs.declared.Refusal.{Refusal}
use Rattle.group.specs.Powers.{SignedPower, exponent_sizes}
use Rattle.group.specs.inside.PowerLists.{powers_in}
use Rattle.refusals.specs.Outcomes.{Outcome, accepted, valued, refusal}
use Rattle.tokens.specs.Reading.{TextRead}
use Rattle.tokens.specs.declared.Powers.{Powers}

-- The outcome of each answer: the sum of the sizes.
abbrev pub tokens_of : Result Powers Refusal → Outcome ℕ
tokens_of (Ok p) = accepted p.sum
tokens_of (Err r) = refusal r

-- The first entries of the arrays hold the powers.
pub record Holding (ps : List SignedPower) (count : ℕ) (ks es ss : List ℕ) : Type 0 where
  pub counts : count ≡ length ps
  pub ks_long : count ≤ length ks
  pub es_long : count ≤ length es
  pub ss_long : count ≤ length ss
  pub holds : powers_in (take count ks) (take count es) (take count ss) ≡ ps

-- The text was read; ks, es and ss are the indices, exponents and sides at exit. What they hold behind the powers, and
-- on a refusal, is open.
pub record TokensRead (t ks es ss : List ℕ) (r : Result Powers Refusal) : Type 0 where
  pub outcome : Outcome (List SignedPower)
  pub reads : TextRead t outcome
  pub result : tokens_of r ≡ valued exponent_sizes outcome
  pub held : (p : Powers) (ps : List SignedPower) → r ≡ Ok p → outcome ≡ accepted ps
      → Holding ps p.count ks es ss
