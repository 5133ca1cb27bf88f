use native.Mathlib.Omega.{arith}
use Rattle.bitrows.proofs.Along.{along_more}
use Rattle.bitrows.proofs.walk.walk_from.Goals as goal

pub loop-w-2-init : goal.loop-w-2-init
loop-w-2-init c = (along_more _ c.loop-w.invariant (omega arith) c.step-w.ensures.reach, omega arith)

pub loop-w-2-preserved : goal.loop-w-2-preserved
loop-w-2-preserved c =
    let inv = c.loop-w-2.invariant in
    (along_more _ inv.0 (omega arith) c.pass_number-w.ensures.reach, omega (arith, inv.1))
