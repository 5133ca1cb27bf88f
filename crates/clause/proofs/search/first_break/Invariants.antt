-- `first_break` meets its contract. Assumes nothing.
use Rattle.clause.specs.inside.Tables.{Unbroken}
use Rattle.clause.proofs.search.first_break.Given as goal

abbrev pub invariant-loop-i : goal.invariant-loop-i
invariant-loop-i l = Unbroken l.b l.a l.i
