use native.Mathlib.Omega.{arith}
use Rattle.spelling.specs.inside.Steps.{read_exponent}
use Rattle.spelling.proofs.Rest.{falling_all, falling_next, falling_done, leads_room}
use Rattle.spelling.proofs.WrittenRuns.{puts_start, puts_more, puts_done, puts_length}
use Rattle.spelling.proofs.writing.write_falling.Goals as goal

pub loop-k-init : goal.loop-k-init
loop-k-init c = puts_start _ _ (falling_all _)

pub write-state-requires-clause-e_in_bounds : goal.write-state-requires-clause-e_in_bounds
write-state-requires-clause-e_in_bounds c =
    let next = falling_next (read_exponent c.args.a.now) c.loop-k.k (omega arith) in
    let left = c.loop-k.invariant in
    omega (arith, leads_room left.leads next, puts_length left, c.requires)

pub loop-k-preserved : goal.loop-k-preserved
loop-k-preserved c =
    let next = falling_next (read_exponent c.args.a.now) c.loop-k.k (omega arith) in
    puts_more c.loop-k.invariant next c.write-state.ensures

pub returns : goal.returns
returns c = puts_done c.loop-k.invariant (falling_done (read_exponent c.args.a.now) c.loop-k.k (omega arith))
