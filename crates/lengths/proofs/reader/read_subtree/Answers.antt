use mathlib.Core.Path.{refl}
use native.Mathlib.Omega.{arith}
use Rattle.lists.proofs.Writes.{writing_length}
use Rattle.lengths.proofs.ReadSteps.{node_there}
use Rattle.lengths.proofs.ReadLoops.{amidst_start, amidst_ready, amidst_more, amidst_done}
use Rattle.lengths.proofs.reader.read_subtree.Goals as goal

pub loop-pending-init : goal.loop-pending-init
loop-pending-init c = amidst_start _ _ _

pub read_node-inside-requires : goal.read_node-inside-requires
read_node-inside-requires c = amidst_ready c.loop-pending.invariant c.requires c.loop-pending-test.true

pub overflow_add-place : goal.overflow_add-place
overflow_add-place c =
    let ready = amidst_ready c.loop-pending.invariant c.requires c.loop-pending-test.true in
    let kept = writing_length (c.loop-pending.invariant.writing 0) in
    omega (arith, node_there ready.readable (omega arith), c.well_formed, kept)

pub loop-pending-smaller : goal.loop-pending-smaller
loop-pending-smaller c =
    let ready = amidst_ready c.loop-pending.invariant c.requires c.loop-pending-test.true in
    let kept = c.read_node-inside.auto.shape in
    omega (arith, node_there ready.readable (omega arith), kept)

pub loop-pending-preserved : goal.loop-pending-preserved
loop-pending-preserved c = amidst_more c.loop-pending.invariant c.loop-pending-test.true c.read_node-inside.ensures

pub shape_of-shape : goal.shape_of-shape
shape_of-shape c = writing_length (c.loop-pending.invariant.writing 0)

pub returns : goal.returns
returns c = amidst_done c.loop-pending.invariant (omega arith) refl refl
