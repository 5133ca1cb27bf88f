use native.Mathlib.Omega.{arith}
use Rattle.forest.proofs.Seeking.{going_starts, going_popped}
use Rattle.forest.proofs.powers.move_on.Goals as goal

pub loop-i-init : goal.loop-i-init
loop-i-init c =
    let g = c.args in
    (going_starts g.before.now g.stack.now g.front g.height, omega arith, omega arith, omega arith)

pub loop-i-preserved : goal.loop-i-preserved
loop-i-preserved c =
    let inv = c.loop-i.invariant in (
      going_popped inv.0 inv.1 (omega (arith, inv.0.before_same)) (omega (arith, inv.3)),
      omega (arith, inv.1),
      omega arith,
      omega (arith, inv.3),
    )
