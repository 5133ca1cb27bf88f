use native.Mathlib.Omega.{arith}
use Rattle.trees.proofs.Counting.{count_start, count_done}
use Rattle.trees.proofs.count.needed.Goals as goal

pub loop-tally-init : goal.loop-tally-init
loop-tally-init c = count_start c.used.ensures

pub add_block-tally-requires : goal.add_block-tally-requires
add_block-tally-requires c = record { entries = c.requires; more = omega arith; counted = c.loop-tally.invariant }

pub loop-tally-smaller : goal.loop-tally-smaller
loop-tally-smaller c = c.add_block-tally.ensures.on

pub loop-tally-preserved : goal.loop-tally-preserved
loop-tally-preserved c = c.add_block-tally.ensures.counted

pub returns : goal.returns
returns c = count_done c.loop-tally.invariant (omega arith)
