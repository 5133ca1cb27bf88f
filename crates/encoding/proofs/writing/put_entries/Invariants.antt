-- The entries of the indices so far are written. Assumes nothing.
use Rattle.encoding.proofs.WriteLoops.{Putting}
use Rattle.encoding.proofs.writing.put_entries.Given as goal

abbrev pub invariant-loop-index : goal.invariant-loop-index
invariant-loop-index l = Putting l.table l.out l.end l.index l.initial.out l.at
