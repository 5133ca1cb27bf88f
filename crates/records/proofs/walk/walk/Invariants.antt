-- `walk` meets its contract: each turn by its law in Walks. Assumes nothing.
use Prim.Native.Nat.{◌+◌}
use Rattle.records.proofs.Walks.{Walking}
use Rattle.records.proofs.walk.walk.Given as goal

abbrev pub invariant-loop-p : goal.invariant-loop-p
invariant-loop-p l = Walking l.s l.initial.p l.initial.q l.p l.q

abbrev pub decreases-loop-p : goal.decreases-loop-p
decreases-loop-p l = l.p.left + l.q.left
