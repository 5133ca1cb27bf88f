use native.Mathlib.Omega.{arith}
use Rattle.group.specs.Limits.{limit}
use Rattle.spelling.specs.inside.Steps.{read_exponent}
use Rattle.spelling.proofs.Rest.{rising_all, rising_next, rising_done, leads_room}
use Rattle.spelling.proofs.WrittenRuns.{puts_start, puts_more, puts_done, puts_length}
use Rattle.spelling.proofs.writing.write_rising.Goals as goal

pub loop-k-init : goal.loop-k-init
loop-k-init c = puts_start _ _ (rising_all _)

pub write-state-requires-clause-e_in_bounds : goal.write-state-requires-clause-e_in_bounds
write-state-requires-clause-e_in_bounds c =
    let next = rising_next (read_exponent c.args.b.now) limit c.loop-k.k (omega arith) (omega arith) in
    let left = c.loop-k.invariant in
    omega (arith, leads_room left.leads next, puts_length left, c.requires)

pub loop-k-preserved : goal.loop-k-preserved
loop-k-preserved c =
    let next = rising_next (read_exponent c.args.b.now) limit c.loop-k.k (omega arith) (omega arith) in
    puts_more c.loop-k.invariant next c.write-state.ensures

pub returns : goal.returns
returns c = puts_done c.loop-k.invariant (rising_done (read_exponent c.args.b.now) limit c.loop-k.k (omega arith))
