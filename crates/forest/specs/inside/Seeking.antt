-- What the functions of `powers` promise: two stacks stand for a row with a cursor, the bushes in front of it on
-- `before`, those from it on on `stack`. Assumes nothing.
use Rattle.std.specs.Prelude.{◌≡◌, List, ℕ, zero, suc, ◌+◌, ◌-◌, ◌≤◌, ◌<◌, get_or, length}
use Rattle.group.specs.Forms.{Side, b_side, a_side}
use Rattle.group.specs.Powers.{exponent_sizes}
use Rattle.group.specs.inside.PowerLists.{powers_in}
use Rattle.group.specs.Limits.{limit}
use Rattle.forest.specs.declared.powers.Hand.{Hand}
use Rattle.forest.specs.inside.Filling.{cells}
use Rattle.forest.specs.inside.Forest.{Bush, left_part, first_bush, forest_tips}
use Rattle.forest.specs.inside.Cells.{Stands, StackStands, Raisable}
use Rattle.forest.specs.inside.Cursor.{Cursor, cursor, seek, next_bush, next_rest, power_on}
use Rattle.forest.specs.inside.Cursor.{cursor_bushes, cursor_of, IndicesWithin}

-- The size of `before`: no index is above the limit.
abbrev pub front_room : ℕ
front_room = limit + 1

-- The size of the stack: the row has up to `limit + 1 + limit` tips, and the loops leave room for pushes.
abbrev pub row_room : ℕ
row_room = limit + limit + 4

-- The two stacks stand for the bushes of the cursor.
abbrev pub Stood : (lefts rights : List ℕ) (used : ℕ) (before stack : List ℕ) (front height : ℕ) → Cursor → Type 0
Stood lefts rights used before stack front height (cursor ls ts) =
    StackStands limit lefts rights used ls before front × StackStands limit lefts rights used ts stack height

-- The stacks stand for a cursor, and there is room to move it to place k.
pub record Seekable (before stack : List ℕ) (front height k : ℕ) : Type 0 where
  pub lefts : List ℕ
  pub rights : List ℕ
  pub used : ℕ
  pub at : Cursor
  pub stood : Stood lefts rights used before stack front height at
  pub within : front ≤ length before
  pub room : k ≤ length before
  pub deep : front + height < length stack

-- The cursor was moved to place k.
abbrev pub Sought : (before stack : List ℕ) (front height k : ℕ) (before' stack' : List ℕ) (height' : ℕ) → Type 0
Sought before stack front height k before' stack' height' =
    (lefts rights : List ℕ) (used : ℕ) (c : Cursor)
    → Stood lefts rights used before stack front height c
    → Stood lefts rights used before' stack' k height' (seek k c)

-- The cursor was moved on to place `end` by bushes of the stack alone.
pub record MovedOn (before stack : List ℕ) (front height end : ℕ) (before' : List ℕ) (height' : ℕ) : Type 0 where
  pub moves : Sought before stack front height end before' stack height'
  pub passed : end + height' ≡ front + height

-- On the way back to place k the first bush is stored: it is no tip of exponent 0, or there is a bush behind it.
abbrev pub Storing : (before : List ℕ) (front height k : ℕ) → Type 0
Storing before front height k = height ≡ 0 → k < front → get_or before (front - 1) 0 ≡ 0 → ⊥

-- The cursor was moved back to place i with nothing stored, and from there on to place k each bush is.
pub record Skipped (before : List ℕ) (front height k i : ℕ) : Type 0 where
  pub low : k ≤ i
  pub high : i ≤ front
  pub moves : (stack : List ℕ) → Sought before stack front height i before stack height
  pub storing : Storing before i height k

-- A bush can be parted e times, and no exponent comes above the limit; joining raises none.
abbrev pub Raises : Side → ℕ → Bush → Type 0
Raises b_side e t = Unit {0}
Raises a_side zero t = Unit {0}
Raises a_side (suc e) t = Raisable limit t × Raises a_side e (left_part t)

-- There is room for one turn of the bush in hand.
pub record TurnReady (lefts rights stack : List ℕ) (hand : Hand) : Type 0 where
  pub lefts_length : length lefts ≡ cells
  pub rights_length : length rights ≡ cells
  pub used_low : limit < hand.used
  pub used_high : hand.used < cells
  pub height_high : hand.height < length stack
  pub bush_high : hand.bush < cells

-- The bush in hand was turned; every stored bush is kept.
pub record Turned (s : Side) (lefts rights stack : List ℕ) (hand : Hand) (lefts' rights' stack' : List ℕ) (hand' : Hand)
    : Type 0 where
  pub low : hand.used ≤ hand'.used
  pub high : hand'.used ≤ hand.used + 1
  pub keeps : (x : Bush) (code : ℕ) → Stands limit lefts rights hand.used x code
      → Stands limit lefts' rights' hand'.used x code
  pub turns : (t : Bush) (ts : List Bush) → Raises s 1 t → Stands limit lefts rights hand.used t hand.bush
      → StackStands limit lefts rights hand.used ts stack hand.height
      → Stands limit lefts' rights' hand'.used (next_bush s t ts) hand'.bush
      × StackStands limit lefts' rights' hand'.used (next_rest s t ts) stack' hand'.height
      × (hand'.height ≤ hand.height + 1)

-- The stack stands for the bushes from the cursor on, and there is room for a power with the exponent e.
pub record PowerRoom (s : Side) (lefts rights stack : List ℕ) (used height e : ℕ) : Type 0 where
  pub lefts_length : length lefts ≡ cells
  pub rights_length : length rights ≡ cells
  pub used_low : limit < used
  pub used_high : used + e ≤ cells
  pub ts : List Bush
  pub stood : StackStands limit lefts rights used ts stack height
  pub raises : Raises s e (first_bush ts)
  pub deep : height + e < length stack

-- The power was put at the cursor; every stored bush is kept.
pub record PowerPut (s : Side) (lefts rights stack : List ℕ) (used height e : ℕ) (lefts' rights' stack' : List ℕ)
    (used' height' : ℕ) : Type 0 where
  pub low : used ≤ used'
  pub high : used' ≤ used + e
  pub keeps : (x : Bush) (code : ℕ) → Stands limit lefts rights used x code → Stands limit lefts' rights' used' x code
  pub puts : (ts : List Bush) → Raises s e (first_bush ts) → StackStands limit lefts rights used ts stack height
      → StackStands limit lefts' rights' used' (power_on s e ts) stack' height'

-- Powers within the limits, and scratch of the right sizes and any content.
pub record PowersReady (indices exponents sides lefts rights before stack : List ℕ) : Type 0 where
  pub exponents-length : length exponents ≡ length indices
  pub sides_length : length sides ≡ length indices
  pub indices_within : IndicesWithin limit (powers_in indices exponents sides)
  pub sizes : exponent_sizes (powers_in indices exponents sides) ≤ limit
  pub lefts_length : length lefts ≡ cells
  pub rights_length : length rights ≡ cells
  pub before_length : length before ≡ front_room
  pub stack_length : length stack ≡ row_room

-- The bushes of the row of the powers, from the left.
abbrev pub power_bushes : (indices exponents sides : List ℕ) → List Bush
power_bushes indices exponents sides = cursor_bushes (cursor_of (powers_in indices exponents sides))

-- All these bushes stand on the stack, and it has room for all their tips.
pub record PowersPiled (indices exponents sides lefts rights stack : List ℕ) (height : ℕ) : Type 0 where
  pub stack_stands : StackStands limit lefts rights cells (power_bushes indices exponents sides) stack height
  pub few : forest_tips (power_bushes indices exponents sides) ≤ limit + 1 + limit
