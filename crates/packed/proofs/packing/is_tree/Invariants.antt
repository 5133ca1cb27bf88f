-- What the nodes so far leave open. Assumes nothing.
use Rattle.packed.proofs.PackSteps.{Closing}
use Rattle.packed.proofs.packing.is_tree.Given as goal

abbrev pub invariant-loop-node : goal.invariant-loop-node
invariant-loop-node l = Closing l.shape l.pending l.node-index
