use mathlib.Core.Path.{refl}
use native.Mathlib.Omega.{arith}
use Rattle.lists.proofs.Tables.{filled_none, filled_more}
use Rattle.copying.proofs.Copying.{front_filled}
use Rattle.copying.proofs.copy_bytes.Goals as goal

pub loop-i-init : goal.loop-i-init
loop-i-init c = filled_none _ _

pub loop-i-preserved : goal.loop-i-preserved
loop-i-preserved c =
    filled_more c.loop-i.i _ c.args.to.now c.loop-i.to _ (omega (arith, c.min-n.ensures)) c.loop-i.invariant refl

pub returns-clause-copied : goal.returns-clause-copied
returns-clause-copied c = front_filled _ _ (omega arith) (omega (arith, c.min-n.ensures)) c.loop-i.invariant
