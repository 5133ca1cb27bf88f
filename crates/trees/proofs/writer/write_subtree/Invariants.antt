-- `write_subtree` meets its contract: the leaves of the subtree are written one by one. Assumes nothing.
use Prim.Native.Nat.{◌-◌}
use lib.ListN.{length}
use Rattle.trees.proofs.WriteSteps.{Pending}
use Rattle.trees.proofs.writer.write_subtree.Given as goal

abbrev pub invariant-loop-pending : goal.invariant-loop-pending
invariant-loop-pending l =
    Pending l.e l.initial.place.leaf.0 l.initial.shape l.initial.place.at l.shape l.place.leaf.0 l.place.at l.pending

abbrev pub decreases-loop-pending : goal.decreases-loop-pending
decreases-loop-pending l = length l.initial.shape - l.place.at
