use native.Mathlib.Omega.{arith}
use Rattle.bitrows.proofs.Passing.{amid_more, amid_reach, bits_leave}
use Rattle.bitrows.proofs.walk.Walk.pass_bytes.Goals as goal

pub overflow_sub-w : goal.overflow_sub-w
overflow_sub-w c =
    let byte = c.tally-byte in
    (bits_leave 8 c.loop-w.rest c.loop-w.w.pending byte.result.carets (omega (arith, byte.ensures.fall))
    byte.ensures.carets).0

pub loop-w-preserved : goal.loop-w-preserved
loop-w-preserved c =
    let byte = c.tally-byte in
    let inv = c.loop-w.invariant in
    let left =
    bits_leave 8 c.loop-w.rest c.loop-w.w.pending byte.result.carets (omega (arith, byte.ensures.fall))
    byte.ensures.carets in
    (amid_more 8 _ inv.0 left.1.leaves left.1.few (omega arith), inv.1, omega (arith, inv.2))

pub returns-then-w-byte : goal.returns-then-w-byte
returns-then-w-byte c = amid_reach c.args.self c.loop-w.invariant.0
