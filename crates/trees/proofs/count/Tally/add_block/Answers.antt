-- `Tally::add_block` meets its contract. Assumes nothing.
use native.Mathlib.Omega.{arith}
use Rattle.trees.proofs.Counting.{count_block}
use Rattle.trees.proofs.count.Tally.add_block.Goals as goal

pub overflow_sub-result : goal.overflow_sub-result
overflow_sub-result c = omega (arith, (c.zeros_before.ensures c.if-zeros_before.true).room)

pub returns-then-zeros_before : goal.returns-then-zeros_before
returns-then-zeros_before c =
    let zeros = c.zeros_before.ensures c.if-zeros_before.true in
    let pre = c.requires in
    record { on = omega (arith, pre.more, zeros.room); counted = count_block pre.counted zeros }
