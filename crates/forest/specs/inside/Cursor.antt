-- The engine's model for powers of any x_k: a row of bushes with a cursor. x_k acts on the bush at place k of the row,
-- so the cursor is moved to place k and stays there for the next power.
--     cursor ls ts          the bushes in front of the cursor, nearest first, and the bushes from the cursor on
--     onward, backward      the cursor moved by one bush           seek k c    moved to place k
--     next_bush, next_rest    the bush at the cursor and the bushes behind it after one x_k or x_k⁻¹, k the place
--     power_here s e c       x_k^e (b_side) or x_k^−e (a_side)
--     cursor_bushes c        all bushes of the row, from the left
--     cursor_of ps           the cursor behind powers
-- Tips of exponent 0 behind the last bush are not stored (put_bush). Assumes nothing.
use Rattle.std.specs.Prelude.{List, [], ◌∷◌, ℕ, zero, suc, ◌-◌, ◌≤◌, length}
use Rattle.group.specs.Forms.{Side, b_side, a_side}
use Rattle.group.specs.Powers.{SignedPower, signed_power}
use Rattle.forest.specs.inside.Forest.{Bush, join_bushes, left_part, right_part, first_bush, later_bushes, put_bush}

-- A row with a cursor.
pub data Cursor : Type 0 where
  cursor : (before behind : List Bush) → Cursor

-- The place of the bush at the cursor.
abbrev pub place : Cursor → ℕ
place (cursor ls ts) = length ls

-- One bush further; behind the last stand tips of exponent 0.
abbrev pub onward : Cursor → Cursor
onward (cursor ls ts) = cursor (first_bush ts ∷ ls) (later_bushes ts)

-- One bush back.
abbrev pub backward : Cursor → Cursor
backward (cursor [] ts) = cursor [] ts
backward (cursor (t ∷ ls) ts) = cursor ls (put_bush t ts)

-- Several bushes further.
abbrev pub go_on : ℕ → Cursor → Cursor
go_on zero c = c
go_on (suc n) c = go_on n (onward c)

-- Several bushes back.
abbrev pub go_back : ℕ → Cursor → Cursor
go_back zero c = c
go_back (suc n) c = go_back n (backward c)

-- At place k.
abbrev pub seek : ℕ → Cursor → Cursor
seek k c = go_on (k - place c) (go_back (place c - k) c)

-- The bush at the cursor after one turn: joined with the next bush of the row, or its left part.
abbrev pub next_bush : Side → Bush → List Bush → Bush
next_bush b_side t ts = join_bushes t (first_bush ts)
next_bush a_side t ts = left_part t

-- The bushes behind it.
abbrev pub next_rest : Side → Bush → List Bush → List Bush
next_rest b_side t ts = later_bushes ts
next_rest a_side t ts = put_bush (right_part t) ts

-- The bushes from the cursor on after e turns, the bush there held apart from those behind it.
abbrev pub power_from : Side → ℕ → Bush → List Bush → List Bush
power_from s zero t ts = put_bush t ts
power_from s (suc e) t ts = power_from s e (next_bush s t ts) (next_rest s t ts)

-- The same of the bushes from the cursor on.
abbrev pub power_on : Side → ℕ → List Bush → List Bush
power_on s e ts = power_from s e (first_bush ts) (later_bushes ts)

-- A power at the cursor.
abbrev pub power_here : Side → ℕ → Cursor → Cursor
power_here s e (cursor ls ts) = cursor ls (power_on s e ts)

-- The bushes in front put back, one after another.
abbrev pub rewind : List Bush → List Bush → List Bush
rewind [] ts = ts
rewind (t ∷ ls) ts = rewind ls (put_bush t ts)

-- All bushes of the row.
abbrev pub cursor_bushes : Cursor → List Bush
cursor_bushes (cursor ls ts) = rewind ls ts

-- The cursor behind powers, the last of them first.
abbrev pub cursor_of : List SignedPower → Cursor
cursor_of [] = cursor [] []
cursor_of (signed_power s k e ∷ ps) = power_here s e (seek k (cursor_of ps))

-- No index of the powers is above m.
abbrev pub IndicesWithin : ℕ → List SignedPower → Type 0
IndicesWithin m [] = Unit {0}
IndicesWithin m (signed_power s k e ∷ ps) = (k ≤ m) × IndicesWithin m ps
