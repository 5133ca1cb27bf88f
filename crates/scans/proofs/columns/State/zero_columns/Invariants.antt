-- `zero_columns` meets its contract. Assumes nothing.
use Rattle.scans.proofs.Loops.{PassedTo}
use Rattle.scans.proofs.columns.State.zero_columns.Given as goal

abbrev pub invariant-loop-left : goal.invariant-loop-left
invariant-loop-left l = PassedTo l.count l.initial.s l.left l.s

abbrev pub decreases-loop-left : goal.decreases-loop-left
decreases-loop-left l = l.left
