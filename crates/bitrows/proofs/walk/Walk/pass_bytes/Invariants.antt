-- `pass_bytes` meets its contract. Assumes nothing.
use mathlib.Core.Path.{◌≡◌}
use Prim.Native.Nat.{◌-◌, ◌%◌}
use Rattle.bitrows.proofs.Passing.{Amid}
use Rattle.bitrows.proofs.walk.Walk.pass_bytes.Given as goal

abbrev pub invariant-loop-w : goal.invariant-loop-w
invariant-loop-w l =
    Amid l.x l.fn.self.at l.fn.self.pending l.end l.w.at l.w.pending l.rest × (l.end % 8 ≡ 0) × (l.w.at % 8 ≡ 0)

abbrev pub decreases-loop-w : goal.decreases-loop-w
decreases-loop-w l = l.end - l.w.at
