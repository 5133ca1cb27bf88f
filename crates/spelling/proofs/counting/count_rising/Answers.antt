use native.Mathlib.Omega.{arith}
use Rattle.group.specs.Limits.{limit}
use Rattle.spelling.specs.inside.Steps.{read_exponent}
use Rattle.spelling.proofs.Rest.{rising_all, rising_next, rising_done}
use Rattle.spelling.proofs.Rest.{leads_start, leads_more, leads_room, leads_done}
use Rattle.spelling.proofs.counting.count_rising.Goals as goal

pub loop-k-init : goal.loop-k-init
loop-k-init c = leads_start _ (rising_all _)

pub power-state-requires-clause-e_bound : goal.power-state-requires-clause-e_bound
power-state-requires-clause-e_bound c =
    let next = rising_next (read_exponent c.args.b.now) limit c.loop-k.k (omega arith) (omega arith) in
    omega (arith, leads_room c.loop-k.invariant next)

pub loop-k-preserved : goal.loop-k-preserved
loop-k-preserved c =
    let next = rising_next (read_exponent c.args.b.now) limit c.loop-k.k (omega arith) (omega arith) in
    leads_more c.loop-k.invariant next c.power-state.ensures

pub returns : goal.returns
returns c = leads_done c.loop-k.invariant (rising_done (read_exponent c.args.b.now) limit c.loop-k.k (omega arith))
