-- The contracts of the functions that read a token and keep its power. Assumes nothing.
use Rattle.std.specs.Prelude.{◌≡◌, List, ℕ, ◌+◌, ◌≤◌, ◌<◌, length, drop, set, Option, Some, None}
use Rattle.group.specs.Limits.{limit}
use Rattle.group.specs.Powers.{SignedPower, signed_power}
use Rattle.tokens.specs.Tokens.{InRange}
use Rattle.tokens.specs.declared.Powers.{Powers}
use Rattle.tokens.specs.declared.token.Power.{Power}
use Rattle.tokens.specs.inside.Spelling.{side_of_sign, side_number, PowerRead, NoToken}

-- The power of a token.
abbrev pub power_of : Power → SignedPower
power_of p = signed_power (side_of_sign p.inverse) p.index p.exponent

-- What stands in the text t at a place.
abbrev pub TokenRead : (t : List ℕ) (at : ℕ) → Option Power → Type 0
TokenRead t at (Some p) = PowerRead t at (power_of p) p.end
TokenRead t at None = NoToken (drop at t)

-- The powers that are kept, if the sum of their sizes is at most the limit, are no more than that sum.
abbrev pub Few : Option Powers → Type 0
Few (Some k) = (k.count ≤ k.sum) × (k.sum ≤ limit)
Few None = Unit {0}

-- A power in range, and arrays that have room for one more power while the sum is at most the limit.
pub record Keepable (p : Power) (kept : Option Powers) (ks es ss : List ℕ) : Type 0 where
  pub in_range : InRange (power_of p)
  pub few : Few kept
  pub ks_size : length ks ≡ limit
  pub es_size : length es ≡ limit
  pub ss_size : length ss ≡ limit

-- One power more in the arrays, where `kept` are kept.
pub record KeptMore (p : Power) (kept more : Powers) (ks es ss ks' es' ss' : List ℕ) : Type 0 where
  pub sum_within : more.sum ≤ limit
  pub sum_more : more.sum ≡ kept.sum + p.exponent
  pub count_more : more.count ≡ kept.count + 1
  pub ks_more : ks' ≡ set ks kept.count p.index
  pub es_more : es' ≡ set es kept.count p.exponent
  pub ss_more : ss' ≡ set ss kept.count (side_number p.inverse)

-- One power more, where the sum stays at most the limit.
abbrev pub Kept : (p : Power) (kept : Option Powers) (ks es ss ks' es' ss' : List ℕ) → Option Powers → Type 0
Kept p (Some k) ks es ss ks' es' ss' (Some r) = KeptMore p k r ks es ss ks' es' ss'
Kept p (Some k) ks es ss ks' es' ss' None = limit < k.sum + p.exponent
Kept p None ks es ss ks' es' ss' (Some r) = ⊥
Kept p None ks es ss ks' es' ss' None = Unit {0}
