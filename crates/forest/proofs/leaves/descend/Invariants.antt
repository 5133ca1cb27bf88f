-- `leaves::descend` meets its contract: the walk of `Descent`; the code falls in each turn.
-- Assumes nothing.
use Rattle.forest.specs.inside.Leaves.{Walking}
use Rattle.forest.proofs.leaves.descend.Given as goal

abbrev pub invariant-loop-code : goal.invariant-loop-code
invariant-loop-code l = Walking l.last l.lefts l.rights l.initial.stack l.bush l.low l.stack l.code l.edges l.height

abbrev pub decreases-loop-code : goal.decreases-loop-code
decreases-loop-code l = l.code
