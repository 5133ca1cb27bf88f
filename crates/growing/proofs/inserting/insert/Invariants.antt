-- `insert` meets its contract. Assumes nothing.
use Rattle.growing.proofs.GrowSteps.{Grows}
use Rattle.growing.proofs.inserting.insert.Given as goal

-- The lists grow as they should, from the entry on.
abbrev pub invariant-loop-j : goal.invariant-loop-j
invariant-loop-j l = Grows l.fn.numbers l.fn.summary l.fn.nodes l.fn.node.0 l.numbers l.summary l.j l.carry l.count
