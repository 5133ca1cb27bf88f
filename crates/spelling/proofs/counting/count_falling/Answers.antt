use native.Mathlib.Omega.{arith}
use Rattle.spelling.specs.inside.Steps.{read_exponent}
use Rattle.spelling.proofs.Rest.{falling_all, falling_next, falling_done}
use Rattle.spelling.proofs.Rest.{leads_start, leads_more, leads_room, leads_done}
use Rattle.spelling.proofs.counting.count_falling.Goals as goal

pub loop-k-init : goal.loop-k-init
loop-k-init c = leads_start _ (falling_all _)

pub power-state-requires-clause-e_bound : goal.power-state-requires-clause-e_bound
power-state-requires-clause-e_bound c =
    let next = falling_next (read_exponent c.args.a.now) c.loop-k.k (omega arith) in
    omega (arith, leads_room c.loop-k.invariant next)

pub loop-k-preserved : goal.loop-k-preserved
loop-k-preserved c =
    let next = falling_next (read_exponent c.args.a.now) c.loop-k.k (omega arith) in
    leads_more c.loop-k.invariant next c.power-state.ensures

pub returns : goal.returns
returns c = leads_done c.loop-k.invariant (falling_done (read_exponent c.args.a.now) c.loop-k.k (omega arith))
