-- How N is counted by the code, from the end of a table on.
--     Unused e i          the entries from i on are 0       UpToLast e i      i is behind the last that is not 0
--     LastIs e r          the last that is not 0, if any
--     Counted e i sum n   the entries from i on are counted
-- Inside: no claim reaches these definitions; a reader of the claims need not believe them. Assumes nothing.
use Rattle.std.specs.Prelude.{◌≡◌, List, ℕ, ◌+◌, ◌*◌, ◌-◌, ◌≤◌, ◌<◌, length, drop, Option, MatchOption}
use Rattle.std.specs.List.{AllWithin, HoldsAt}
use Rattle.lists.specs.Entries.{total}
use Rattle.trees.specs.declared.count.Tally.{Tally}
use Rattle.trees.specs.Building.{needed}
use Rattle.trees.specs.Pairs.{max_carets}

-- The entries of a table from i on are 0.
pub record Unused (e : List ℕ) (i : ℕ) : Type 0 where
  pub within : i ≤ length e
  pub none : total (drop i e) ≡ 0

-- The last entry that is not 0 is at a place, or there is none.
abbrev pub LastIs : List ℕ → Option ℕ → Type 0
LastIs e r =
    MatchOption r (AllWithin (λ x. x ≡ 0) e 0 (length e))
    (λ i. (i < length e) × AllWithin (λ x. x ≡ 0) e (i + 1) (length e) × HoldsAt (λ x. 0 < x) e i)

-- And from each entry in front of i on, not all are 0.
pub record UpToLast (e : List ℕ) (i : ℕ) : Type 0 where
  pub unused : Unused e i
  pub some : (j : ℕ) → j < i → 0 < total (drop j e)

-- The entries from i on are counted; from each entry in front of i on, not all are 0.
pub record Counted (e : List ℕ) (i sum n : ℕ) : Type 0 where
  pub within : i ≤ length e
  pub sums : sum ≡ total (drop i e)
  pub bound : sum ≤ 65535 * (length e - i)
  pub carets : n ≡ needed i (drop i e)
  pub some : (j : ℕ) → j < i → 0 < total (drop j e)

-- A table that is not too large, and a tally with entries in front of it.
pub record Countable (e : List ℕ) (t : Tally) : Type 0 where
  pub entries : length e ≤ max_carets
  pub more : 0 < t.from
  pub counted : Counted e t.from t.sum t.carets

-- Entries in front of a tally were added to it.
pub record CountedOn (e : List ℕ) (t r : Tally) : Type 0 where
  pub on : r.from < t.from
  pub counted : Counted e r.from r.sum r.carets
