use native.Mathlib.Omega.{arith}
use Rattle.trees.proofs.Counting.{unused_start, unused_block}
use Rattle.trees.proofs.count.whole_blocks.Goals as goal

pub loop-i-init : goal.loop-i-init
loop-i-init c = unused_start _

pub overflow_sub-i : goal.overflow_sub-i
overflow_sub-i c = omega (arith, (c.zeros_before.ensures c.loop-i-test.true).room)

pub loop-i-smaller : goal.loop-i-smaller
loop-i-smaller c = omega (arith, (c.zeros_before.ensures c.loop-i-test.true).room)

pub loop-i-preserved : goal.loop-i-preserved
loop-i-preserved c = unused_block c.loop-i.invariant (c.zeros_before.ensures c.loop-i-test.true)

pub returns : goal.returns
returns c = c.loop-i.invariant
