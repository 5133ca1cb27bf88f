-- `count::needed` meets its contract: the entries from a place on are counted. Assumes nothing.
use Rattle.trees.specs.inside.Counting.{Counted}
use Rattle.trees.proofs.count.needed.Given as goal

abbrev pub invariant-loop-tally : goal.invariant-loop-tally
invariant-loop-tally l = Counted l.e l.tally.from l.tally.sum l.tally.carets

abbrev pub decreases-loop-tally : goal.decreases-loop-tally
decreases-loop-tally l = l.tally.from
