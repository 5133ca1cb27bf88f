-- `walk_from` meets its contract. Assumes nothing.
use Prim.Native.Nat.{◌-◌, ◌≤◌}
use Rattle.bitrows.proofs.Along.{Along}
use Rattle.bitrows.proofs.walk.walk_from.Given as goal

abbrev pub invariant-loop-w : goal.invariant-loop-w
invariant-loop-w l = Along l.numbers l.fn.from.0 l.end l.w

abbrev pub decreases-loop-w : goal.decreases-loop-w
decreases-loop-w l = l.end - l.w.at

abbrev pub invariant-loop-w-2 : goal.invariant-loop-w-2
invariant-loop-w-2 l = Along l.numbers l.fn.from.0 l.end l.w × (l.initial.w.at ≤ l.w.at)

abbrev pub decreases-loop-w-2 : goal.decreases-loop-w-2
decreases-loop-w-2 l = l.end - l.w.at
