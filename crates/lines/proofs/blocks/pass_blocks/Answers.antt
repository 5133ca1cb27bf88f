use mathlib.Core.Path.{◌∙◌}
use native.Mathlib.Omega.{arith}
use Rattle.lines.proofs.BlockTests.{block_within, block_passed}
use Rattle.lines.proofs.blocks.pass_blocks.Goals as goal

pub overflow_add-i : goal.overflow_add-i
overflow_add-i c =
    let i = c.loop-i.i in
    let s = c.args.bytes.now in
    omega (arith, block_within s i c.is_clear.result c.is_clear.ensures c.loop-i-test.true)

pub loop-i-smaller : goal.loop-i-smaller
loop-i-smaller c =
    let i = c.loop-i.i in
    let s = c.args.bytes.now in
    omega (arith, block_within s i c.is_clear.result c.is_clear.ensures c.loop-i-test.true)

pub loop-i-preserved : goal.loop-i-preserved
loop-i-preserved c =
    let loop = c.loop-i in
    let s = c.args.bytes.now in
    block_passed s loop.i c.is_clear.result c.is_clear.ensures c.loop-i-test.true
    ∙ loop.invariant

pub returns : goal.returns
returns c = c.loop-i.invariant
