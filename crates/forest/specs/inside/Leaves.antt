-- What the functions of `leaves` promise: the tips of the stored bushes are written into the tables. Assumes nothing.
use Rattle.std.specs.Prelude.{◌≡◌, List, ℕ, ◌+◌, ◌-◌, ◌≤◌, ◌<◌, length}
use Rattle.lists.specs.Tables.{filled}
use Rattle.group.specs.Forms.{Side, b_side, a_side}
use Rattle.forest.specs.inside.Filling.{cells_for}
use Rattle.forest.specs.inside.Forest.{Bush, tip_edges, tip_exponent, bushes_behind, bushes_from, tip_at}
use Rattle.forest.specs.inside.Forest.{tips, forest_tips}
use Rattle.forest.specs.inside.Cells.{Stands, StackStands}

-- A code stands for a bush and the stack for the bushes behind it, and the stack has room for all their tips.
pub record Standing (last : ℕ) (lefts rights stack : List ℕ) (code height : ℕ) : Type 0 where
  pub lefts_length : cells_for last ≤ length lefts
  pub rights_length : cells_for last ≤ length rights
  pub bush : Bush
  pub behind : List Bush
  pub stands : Stands last lefts rights (cells_for last) bush code
  pub stack_stands : StackStands last lefts rights (cells_for last) behind stack height
  pub few : tips bush + forest_tips behind ≤ length stack

-- The first tip of the bush was read, and the stack holds the bushes behind it.
abbrev pub TipRead : (last : ℕ) (lefts rights stack : List ℕ) (code height : ℕ) (stack' : List ℕ)
    (edges exponent height' : ℕ) → Type 0
TipRead last lefts rights stack code height stack' edges exponent height' =
    (t : Bush) (ts : List Bush)
    → Stands last lefts rights (cells_for last) t code
    → StackStands last lefts rights (cells_for last) ts stack height
    → (edges ≡ tip_edges t)
    × (exponent ≡ tip_exponent t)
    × StackStands last lefts rights (cells_for last) (bushes_behind t ts) stack' height'

-- The bush u, in front of the bushes us, is left of t in front of ts, `edges` left edges down.
pub record DownLeft (t : Bush) (ts : List Bush) (u : Bush) (us : List Bush) (edges : ℕ) : Type 0 where
  pub to_edges : edges + tip_edges u ≡ tip_edges t
  pub to_exponent : tip_exponent u ≡ tip_exponent t
  pub to_behind : bushes_behind u us ≡ bushes_behind t ts
  pub to_tips : tips u + forest_tips us ≤ tips t + forest_tips ts

-- The code stands for such a bush, and the stack for the bushes behind it.
pub record Walked (last : ℕ) (lefts rights : List ℕ) (t : Bush) (ts : List Bush) (stack : List ℕ)
    (code edges height : ℕ)
    : Type 0 where
  pub bush : Bush
  pub behind : List Bush
  pub stands : Stands last lefts rights (cells_for last) bush code
  pub stack_stands : StackStands last lefts rights (cells_for last) behind stack height
  pub below : DownLeft t ts bush behind edges

-- So it is for each bush that `whole` stands for; the code falls as the edges grow.
pub record Walking (last : ℕ) (lefts rights stack₀ : List ℕ) (whole low : ℕ) (stack : List ℕ) (code edges height : ℕ)
    : Type 0 where
  pub same : length stack ≡ length stack₀
  pub falls : edges + code ≤ whole
  pub walked : (t : Bush) (ts : List Bush) → Stands last lefts rights (cells_for last) t whole
      → StackStands last lefts rights (cells_for last) ts stack₀ low
      → Walked last lefts rights t ts stack code edges height

-- The same of a code as many left edges down as it is lower, with the stack as it was.
abbrev pub StemPassed : (last : ℕ) (lefts rights : List ℕ) (whole height code : ℕ) → Type 0
StemPassed last lefts rights whole height code =
    (stack : List ℕ) → Walking last lefts rights stack whole height stack code (whole - code) height

-- Of a function that is 0 from `low` on: a table that was filled below `low` is filled below `high`.
abbrev pub ZerosPut : (table : List ℕ) (low high : ℕ) (table' : List ℕ) → Type 0
ZerosPut table low high table' =
    (f : ℕ → ℕ) (t : List ℕ)
    → high ≤ length t
    → ((i : ℕ) → low ≤ i → f i ≡ 0)
    → table ≡ filled low f t
    → table' ≡ filled high f t

-- The stack stands for bushes and has room for all their tips; each table has `end` entries.
pub record TipsReady (last : ℕ) (lefts rights stack : List ℕ) (low : ℕ) (b a : List ℕ) (end : ℕ) : Type 0 where
  pub lefts_length : cells_for last ≤ length lefts
  pub rights_length : cells_for last ≤ length rights
  pub bushes : List Bush
  pub stack_stands : StackStands last lefts rights (cells_for last) bushes stack low
  pub few : forest_tips bushes ≤ length stack
  pub b_long : end ≤ length b
  pub a_long : end ≤ length a

-- Entry i of the tables, for each i below `end`, has what tip i stands for; the rest is unchanged. The stack holds the
-- bushes behind these tips. The tips from `read` on stand for zeros.
pub record TablesRead (last : ℕ) (lefts rights stack : List ℕ) (low : ℕ) (b a : List ℕ) (end : ℕ)
    (stack' b' a' : List ℕ)
    (read height : ℕ) : Type 0 where
  pub within : read ≤ end
  pub takes : (ts : List Bush) → StackStands last lefts rights (cells_for last) ts stack low
      → (b' ≡ filled end (tip_at b_side ts) b)
      × (a' ≡ filled end (tip_at a_side ts) a)
      × StackStands last lefts rights (cells_for last) (bushes_from end ts) stack' height
      × ((s : Side) (i : ℕ) → read ≤ i → i < end → tip_at s ts i ≡ 0)
