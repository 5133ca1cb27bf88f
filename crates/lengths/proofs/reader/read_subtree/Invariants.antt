-- `read_subtree` meets its contract: the nodes of the subtree are read one by one. Assumes nothing.
use Prim.Native.Nat.{◌-◌}
use lib.ListN.{length}
use Rattle.lengths.proofs.ReadLoops.{Amidst}
use Rattle.lengths.proofs.reader.read_subtree.Given as goal

abbrev pub invariant-loop-pending : goal.invariant-loop-pending
invariant-loop-pending l = Amidst l.initial.shape l.initial.place.at l.initial.place.caret.0 l.place.at
    l.place.caret.0 l.pending l.shape

abbrev pub decreases-loop-pending : goal.decreases-loop-pending
decreases-loop-pending l = length l.shape - l.place.at
