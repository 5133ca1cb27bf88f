-- Bushes as they are stored, and what the functions of `cells` promise. A tip is its exponent, a fork the number of a
-- cell that holds the codes of its two parts. A cell is written once and names only cells written before it, so a
-- stored bush stays what it is. Assumes nothing.
use Rattle.std.specs.Prelude.{◌≡◌, List, [], ◌∷◌, ℕ, ◌+◌, ◌≤◌, ◌<◌, get_or}
use Rattle.forest.specs.inside.Forest.{Bush, tip, fork, join_bushes, left_part, right_part}
use Rattle.forest.specs.inside.Forest.{first_bush, later_bushes, put_bush}

-- The code stands for the bush, its cells all below `used`: up to `last` it is a tip, above it a cell.
abbrev pub Stands : (last : ℕ) (lefts rights : List ℕ) (used : ℕ) → Bush → (code : ℕ) → Type 0
Stands last lefts rights used (tip n) code = (code ≡ n) × (n ≤ last)
Stands last lefts rights used (fork x y) code =
    (last < code)
    × (code < used)
    × Stands last lefts rights code x (get_or lefts code 0)
    × Stands last lefts rights code y (get_or rights code 0)

-- The entries of the stack below `height` stand for the bushes, the last of them for the first bush.
abbrev pub StackStands : (last : ℕ) (lefts rights : List ℕ) (used : ℕ) → List Bush → (stack : List ℕ) (height : ℕ)
    → Type 0
StackStands last lefts rights used [] stack height = height ≡ 0
StackStands last lefts rights used (t ∷ ts) stack height =
    (top : ℕ)
    × (height ≡ top + 1)
    × Stands last lefts rights used t (get_or stack top 0)
    × StackStands last lefts rights used ts stack top

-- The bush is no tip whose exponent is `last`: parting it gives no exponent above that.
abbrev pub Raisable : (last : ℕ) → Bush → Type 0
Raisable last (tip n) = n < last
Raisable last (fork x y) = Unit {0}

-- The answers are codes of the two parts of each bush that the code stands for.
abbrev pub Parted : (last : ℕ) (lefts rights : List ℕ) (code left right : ℕ) → Type 0
Parted last lefts rights code left right =
    (used : ℕ) (t : Bush)
    → Raisable last t
    → Stands last lefts rights used t code
    → Stands last lefts rights used (left_part t) left × Stands last lefts rights used (right_part t) right

-- The first bush of the stack was taken.
abbrev pub Popped : (stack : List ℕ) (height bush height' : ℕ) → Type 0
Popped stack height bush height' =
    (last : ℕ) (lefts rights : List ℕ) (used : ℕ) (ts : List Bush)
    → StackStands last lefts rights used ts stack height
    → Stands last lefts rights used (first_bush ts) bush
    × StackStands last lefts rights used (later_bushes ts) stack height'

-- A bush was put onto the stack.
pub record Pushed (stack : List ℕ) (height bush : ℕ) (stack' : List ℕ) (height' : ℕ) : Type 0 where
  pub high : height' ≤ height + 1
  pub puts : (last : ℕ) (lefts rights : List ℕ) (used : ℕ) (t : Bush) (ts : List Bush)
      → Stands last lefts rights used t bush
      → StackStands last lefts rights used ts stack height
      → StackStands last lefts rights used (put_bush t ts) stack' height'

-- Two bushes were joined; at most one cell was taken, and every stored bush is kept.
pub record Made (last : ℕ) (lefts rights : List ℕ) (used left right : ℕ) (lefts' rights' : List ℕ) (used' bush : ℕ) :
    Type 0 where
  pub low : used ≤ used'
  pub high : used' ≤ used + 1
  pub keeps : (x : Bush) (code : ℕ) → Stands last lefts rights used x code → Stands last lefts' rights' used' x code
  pub makes : (x y : Bush) → Stands last lefts rights used x left → Stands last lefts rights used y right
      → Stands last lefts' rights' used' (join_bushes x y) bush
