-- `block_breaks` meets its contract. Assumes nothing.
use Rattle.clause.proofs.Breaks.{SeenSo}
use Rattle.clause.proofs.search.block_breaks.Given as goal

abbrev pub invariant-loop-i : goal.invariant-loop-i
invariant-loop-i l = SeenSo l.b l.a l.start l.found l.i
