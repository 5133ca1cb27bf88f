-- Entries of a table that are known to be 0.
-- Inside: no claim reaches these definitions; a reader of the claims need not believe them. Assumes nothing.
use Rattle.std.specs.Prelude.{◌≡◌, List, ℕ, ◌+◌, ◌-◌, ◌≤◌, ◌<◌, get_or}

-- The entries of a table from a place on that are known to be 0; those behind its end are.
pub record KnownZeros (e : List ℕ) (from most r : ℕ) : Type 0 where
  pub few : r ≤ most
  pub zeros : (i : ℕ) → from ≤ i → i < from + r → get_or e i 0 ≡ 0

-- A block of zeros ends at a place.
pub record ZerosBefore (e : List ℕ) (end : ℕ) : Type 0 where
  pub room : 64 ≤ end
  pub block : KnownZeros e (end - 64) 64 64
