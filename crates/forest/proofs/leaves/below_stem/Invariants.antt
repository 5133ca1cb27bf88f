-- `leaves::below_stem` meets its contract: the walk of `Descent`, with no bush behind; the code falls in each turn.
-- Assumes nothing.
use Rattle.forest.specs.inside.Leaves.{StemPassed}
use Rattle.forest.proofs.leaves.below_stem.Given as goal

abbrev pub invariant-loop-code : goal.invariant-loop-code
invariant-loop-code l = StemPassed l.last l.lefts l.rights l.bush l.height l.code

abbrev pub decreases-loop-code : goal.decreases-loop-code
decreases-loop-code l = l.code
