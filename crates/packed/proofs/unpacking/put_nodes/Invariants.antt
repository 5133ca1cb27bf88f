-- `put_nodes` meets its contract. Assumes nothing.
use Prim.Native.Nat.{◌≤◌}
use Rattle.packed.proofs.UnpackSteps.{Unpacking}
use Rattle.packed.proofs.unpacking.put_nodes.Given as goal

abbrev pub invariant-loop-i : goal.invariant-loop-i
invariant-loop-i l = Unpacking l.numbers l.initial.shape l.shape l.i × (l.i ≤ l.n)
