use native.Mathlib.Omega.{arith}
use Rattle.packed.proofs.PackSteps.{tree_long, closing_start, closing_more, closing_stuck}
use Rattle.packed.proofs.PackSteps.{closing_other, closing_done}
use Rattle.packed.proofs.packing.is_tree.Goals.{then-pending-eq0-via-then-pending-eq0}
use Rattle.packed.proofs.packing.is_tree.Goals.{then-pending-eq0-via-else-pending-eq0+then-node-gt1}
use Rattle.packed.proofs.packing.is_tree.Goals as goal

pub returns-then-shape : goal.returns-then-shape
returns-then-shape c = tree_long c.args.shape.now (omega arith)

pub loop-node-init : goal.loop-node-init
loop-node-init c = closing_start _ (omega arith)

pub returns-then-pending-eq0 : goal.returns-then-pending-eq0
returns-then-pending-eq0 c =
    elim c.then-pending-eq0.branch [
      | then-pending-eq0-via-then-pending-eq0 w ↦
          closing_stuck c.loop-node.invariant (omega arith) (omega (arith, w.if-pending-eq0.true))
      | then-pending-eq0-via-else-pending-eq0+then-node-gt1 w ↦
          closing_other c.loop-node.invariant (omega arith) (omega (arith, w.if-node-gt1.true))
    ]

pub overflow_mul-pending : goal.overflow_mul-pending
overflow_mul-pending c = record { fits = omega arith }

pub overflow_add-pending : goal.overflow_add-pending
overflow_add-pending c =
    let inv = c.loop-node.invariant in
    record { fits = omega (arith, inv.few, inv.small) }

pub overflow_sub-pending : goal.overflow_sub-pending
overflow_sub-pending c = omega arith

pub loop-node-preserved : goal.loop-node-preserved
loop-node-preserved c = rw c.from.ensures (closing_more c.loop-node.invariant (omega arith) (omega arith) (omega arith))

pub returns : goal.returns
returns c = closing_done c.loop-node.invariant (omega arith)
