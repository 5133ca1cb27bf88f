-- `plain_columns` meets its contract. Assumes nothing.
use Rattle.scans.proofs.Loops.{Upto}
use Rattle.scans.proofs.columns.State.plain_columns.Given as goal

abbrev pub invariant-loop-leaf : goal.invariant-loop-leaf
invariant-loop-leaf l = Upto l.b l.a l.initial.leaf l.leaf-end l.initial.s l.leaf l.s
