-- What the functions of `row` promise: a letter on the stored row, and the row of a word. Assumes nothing.
use Rattle.std.specs.Prelude.{cond, List, [], ◌∷◌, ℕ, ◌+◌, ◌≤◌, ◌<◌, length, eqb}
use Rattle.group.specs.Letters.{Letter, 'a, 'A, 'b, 'B, Word}
use Rattle.group.specs.Limits.{limit}
use Rattle.forest.specs.declared.row.State.{State}
use Rattle.forest.specs.inside.Filling.{cells_for, room_for}
use Rattle.forest.specs.inside.Forest.{Bush, Row, row, row_bushes, move_row, row_of_word}
use Rattle.forest.specs.inside.Cells.{Stands, StackStands, Raisable}

-- How `joined` treats a byte: as b where it is not a.
abbrev pub join_letter : ℕ → Letter
join_letter c = cond (eqb c 97) 'a 'b

-- How `parted` treats a byte: as B where it is not A.
abbrev pub part_letter : ℕ → Letter
part_letter c = cond (eqb c 65) 'A 'B

-- How `step` treats a byte: as B where it is none of a, A, b. The engine runs on words only, whose bytes are letters.
abbrev pub step_letter : ℕ → Letter
step_letter c = cond (eqb c 97) (join_letter c) (cond (eqb c 98) (join_letter c) (part_letter c))

-- How `run` treats bytes.
abbrev pub step_word : List ℕ → Word
step_word [] = []
step_word (c ∷ s) = step_letter c ∷ step_word s

-- The cells, the stack and the two codes of the state stand for the row.
abbrev pub Held : (last : ℕ) (lefts rights stack : List ℕ) → State → Row → Type 0
Held last lefts rights stack s (row x y ts) =
    Stands last lefts rights s.used x s.first
    × Stands last lefts rights s.used y s.second
    × StackStands last lefts rights s.used ts stack s.height

-- The bushes that a letter may part can be parted.
abbrev pub RaisableRow : (last : ℕ) → Row → Type 0
RaisableRow last (row x y ts) = Raisable last x × Raisable last y

-- There is room for one letter more.
pub record Ready (last : ℕ) (lefts rights stack : List ℕ) (s : State) : Type 0 where
  pub last_low : last ≤ limit
  pub lefts_length : cells_for last ≤ length lefts
  pub rights_length : cells_for last ≤ length rights
  pub stack_length : room_for last ≤ length stack
  pub used_low : last < s.used
  pub used_high : s.used < cells_for last
  pub height_high : s.height < last
  pub first_high : s.first < cells_for last
  pub second_high : s.second < cells_for last

-- A letter moved the row.
pub record Moved (last : ℕ) (x : Letter) (lefts rights stack : List ℕ) (s : State) (lefts' rights' stack' : List ℕ)
    (s' : State) : Type 0 where
  pub low : s.used ≤ s'.used
  pub high : s'.used ≤ s.used + 1
  pub moves : (r : Row) → RaisableRow last r → Held last lefts rights stack s r
      → Held last lefts' rights' stack' s' (move_row x r)

-- A word of at most `last` letters, and scratch that is long enough for it, of any content.
pub record Scratch (last : ℕ) (word lefts rights stack : List ℕ) : Type 0 where
  pub last_low : last ≤ limit
  pub word_length : length word ≤ last
  pub lefts_length : cells_for last ≤ length lefts
  pub rights_length : cells_for last ≤ length rights
  pub stack_length : room_for last ≤ length stack

-- The bushes of the row of bytes, from the left.
abbrev pub bushes_of : List ℕ → List Bush
bushes_of word = row_bushes (row_of_word (step_word word))

-- The scratch, with all these bushes on the stack.
pub record Piled (last : ℕ) (word lefts rights stack : List ℕ) (height : ℕ) : Type 0 where
  pub scratch : Scratch last word lefts rights stack
  pub stack_stands : StackStands last lefts rights (cells_for last) (bushes_of word) stack height
