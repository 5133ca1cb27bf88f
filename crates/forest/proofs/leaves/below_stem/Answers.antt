use mathlib.Core.Path.{refl}
use native.Mathlib.Omega.{arith}
use Rattle.forest.proofs.Descent.{walk_stem}
use Rattle.forest.proofs.leaves.below_stem.Goals as goal

pub loop-code-preserved : goal.loop-code-preserved
loop-code-preserved c =
    walk_stem c.loop-code.invariant c.loop-code.code refl c.loop-code-test.true (omega arith)
    c.if-rights-k-ne0.false c.if-lefts-k.false
