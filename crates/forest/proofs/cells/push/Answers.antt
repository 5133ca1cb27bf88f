-- `cells::push` meets its contract: a bush stored, or a tip that need not be.
-- Assumes nothing.
use native.Mathlib.Omega.{arith}
use Rattle.forest.proofs.Stored.{push_some}
use Rattle.forest.proofs.cells.push.Goals as goal

pub returns : goal.returns
returns c = push_some c.args.stack.now c.args.height c.args.bush c.requires
    (λ m. omega (arith, c.else-height-eq0.either, m))
