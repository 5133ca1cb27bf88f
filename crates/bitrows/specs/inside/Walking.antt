-- The walk over packed nodes: how many nodes it has passed, and how many subtrees are to come.
--     fall s               the most that any first part of the nodes s closes more than it opens
--     Leaves s p q         behind the nodes s, q of p subtrees are to come
--     Walked xs from r     a walk over the numbers xs from a node on has come to r
-- Inside: no claim reaches these definitions; a reader of the claims need not believe them. Assumes nothing.
use Rattle.std.specs.Prelude.{◌≡◌, ◌⊎◌, List, [], ◌∷◌, ◌++◌, ℕ, zero, suc, ◌+◌, ◌-◌, ◌*◌, ◌/◌, ◌%◌, ◌^◌, ◌<◌, ◌≤◌, min}
use Rattle.std.specs.Prelude.{length, take, drop, get_or}
use Rattle.lists.specs.Entries.{total}
use Rattle.trees.specs.Pairs.{max_carets}
use Rattle.trees.specs.Shapes.{shape_size, span}
use Rattle.bitrows.specs.declared.walk.Walk.{Walk}
use Rattle.bitrows.specs.Numbers.{numbers_of_value, bits_of, nodes_in}
use Rattle.bitrows.specs.Closing.{closes}

-- The most that any first part of the nodes closes more than it opens.
abbrev pub fall : List ℕ → ℕ
fall [] = 0
fall (zero ∷ s) = suc (fall s)
fall (suc b ∷ s) = fall s - 1

-- A table that has, for each byte, its carets times 16 and its fall.
pub record ByteTable (t : List ℕ) : Type 0 where
  pub size : length t ≡ 256
  pub at : (b : ℕ) → b < 256 → get_or t b 0 ≡ 16 * total (bits_of 8 b) + fall (bits_of 8 b)

-- p subtrees are to come before the nodes s, and q behind them; p does not become 0 before their end.
pub record Leaves (s : List ℕ) (p q : ℕ) : Type 0 where
  pub closes_on : (t : List ℕ) → closes (s ++ t) p ≡ closes t q
  pub spans_on : (t : List ℕ) → span (s ++ t) p ≡ length s + span t q

-- A walk inside the number x has gone on from w to r.
pub record Reach (x : ℕ) (w r : Walk) : Type 0 where
  pub on : w.at ≤ r.at
  pub within : r.at ≤ w.at / 64 * 64 + 64
  pub few : r.pending + w.at ≤ w.pending + r.at
  pub leaves : Leaves (bits_of (r.at - w.at) (x / 2 ^ (w.at % 64))) w.pending r.pending

-- What a step asks: something is to come, and numbers have room for it.
pub record Pending (w : Walk) : Type 0 where
  pub some : 0 < w.pending
  pub few : w.pending ≤ 4294967295
  pub near : w.at ≤ 4294967295

-- The numbers that a tree within the bound can take.
abbrev pub most_numbers : ℕ
most_numbers = numbers_of_value (shape_size max_carets)

-- How many nodes of the numbers xs a walk may pass.
abbrev pub walk_end_value : List ℕ → ℕ
walk_end_value xs = 64 * min (length xs) most_numbers

-- A walk from a node on has come to r: to where the subtree of that node closes, or to the end.
pub record Walked (xs : List ℕ) (from : ℕ) (r : Walk) : Type 0 where
  pub on : from ≤ r.at
  pub leaves : Leaves (take (r.at - from) (drop from (nodes_in xs))) 1 r.pending
  pub within : from ≤ walk_end_value xs → r.at ≤ walk_end_value xs
  pub ended : (r.pending ≡ 0) ⊎ (walk_end_value xs ≤ r.at)
