use native.Mathlib.Omega.{arith}
use Rattle.forest.proofs.Seeking.{going_starts, going_pushed}
use Rattle.forest.proofs.powers.move_back.Goals as goal

pub loop-i-init : goal.loop-i-init
loop-i-init c =
    let g = c.args in
    (going_starts g.before.now g.stack.now g.front g.height, omega arith, omega arith, omega arith)

pub loop-i-preserved : goal.loop-i-preserved
loop-i-preserved c =
    let inv = c.loop-i.invariant in (
      going_pushed inv.0 c.args.k (omega arith) inv.2 (omega (arith, inv.0.stack_same, inv.3)) inv.3
          c.requires.3,
      omega arith,
      omega (arith, inv.2),
      omega (arith, inv.3),
    )
