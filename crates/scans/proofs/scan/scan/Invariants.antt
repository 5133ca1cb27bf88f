-- `scan` meets its contract. Assumes nothing.
use Prim.Native.Nat.{suc, ◌-◌}
use Rattle.trees.specs.Building.{tree_of}
use Rattle.lengths.specs.Weights.{pair_length}
use Rattle.scans.specs.inside.Steps.{Reached}
use Rattle.scans.proofs.scan.scan.Given as goal

abbrev pub invariant-loop-p : goal.invariant-loop-p
invariant-loop-p l = Reached l.b l.a l.n l.p.leaf.0 (pair_length (tree_of l.n l.a) (tree_of l.n l.b)) l.p.state

abbrev pub decreases-loop-p : goal.decreases-loop-p
decreases-loop-p l = suc l.n - l.p.leaf.0
