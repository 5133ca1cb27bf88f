-- Tips only go: how many there are behind the first tips of a row. Assumes nothing.
use mathlib.Core.List.{List, [], ◌∷◌}
use Prim.Native.Nat.{ℕ, zero, suc, ◌+◌, ◌≤◌, ◌<◌}
use native.Mathlib.Omega.{arith}
use Rattle.forest.specs.inside.Forest.{Bush, tip, fork, put_bush, bushes_behind, forest_behind, bushes_from}
use Rattle.forest.specs.inside.Forest.{tips, forest_tips}
use Rattle.forest.proofs.Irreducible.{put_tips}

pub tips_some : (t : Bush) → 0 < tips t
tips_some (tip n) = omega arith
tips_some (fork x y) = omega (arith, tips_some x)

behind-tips : (t : Bush) (ts : List Bush) → forest_tips (bushes_behind t ts) + 1 ≤ tips t + forest_tips ts
behind-tips (tip n) ts = omega arith
behind-tips (fork x y) ts = omega (arith, behind-tips x (put_bush y ts), put_tips y ts)

forest_behind-tips : (ts : List Bush) → forest_tips (forest_behind ts) ≤ forest_tips ts
forest_behind-tips [] = omega arith
forest_behind-tips (t ∷ ts) = omega (arith, behind-tips t ts)

pub from_tips : (i : ℕ) (ts : List Bush) → forest_tips (bushes_from i ts) ≤ forest_tips ts
from_tips zero ts = omega arith
from_tips (suc i) ts = omega (arith, forest_behind-tips (bushes_from i ts), from_tips i ts)
