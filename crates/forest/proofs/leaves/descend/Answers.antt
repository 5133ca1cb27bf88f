use mathlib.Core.Path.{refl}
use native.Mathlib.Omega.{arith}
use Rattle.forest.proofs.Descent.{standing_below, walk_turn, walk_more, walk_ends}
use Rattle.forest.proofs.leaves.descend.Goals as goal

pub below_stem-code-requires : goal.below_stem-code-requires
below_stem-code-requires c = omega (arith, standing_below c.requires)

pub bounds-rights-k : goal.bounds-rights-k
bounds-rights-k c = omega (arith, walk_turn c.loop-code.invariant c.requires c.loop-code-test.true)

pub push-height-requires : goal.push-height-requires
push-height-requires c =
    omega (arith, walk_turn c.loop-code.invariant c.requires c.loop-code-test.true, c.loop-code.invariant.same)

pub bounds-lefts-k : goal.bounds-lefts-k
bounds-lefts-k c = omega (arith, walk_turn c.loop-code.invariant c.requires c.loop-code-test.true)

pub loop-code-smaller : goal.loop-code-smaller
loop-code-smaller c =
    omega (arith, walk_turn c.loop-code.invariant c.requires c.loop-code-test.true)

pub loop-code-preserved : goal.loop-code-preserved
loop-code-preserved c =
    walk_more c.loop-code.invariant c.loop-code.code refl c.loop-code-test.true
    (walk_turn c.loop-code.invariant c.requires c.loop-code-test.true).lower c.push-height.auto.stack
    c.push-height.ensures

pub returns : goal.returns
returns c = walk_ends c.loop-code.invariant c.loop-code-test.false
