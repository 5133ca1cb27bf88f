use mathlib.Core.Path.{◌≡◌}
use Prim.Native.Nat.{◌+◌, ◌-◌}
use native.Mathlib.Omega.{arith}
use Rattle.growing.proofs.LeafSteps.{holds_returned, holds_last}
use Rattle.growing.proofs.inserting.number_of_leaf.Goals as goal

pub loop-j-init : goal.loop-j-init
loop-j-init c = omega arith

pub overflow_sub-j : goal.overflow_sub-j
overflow_sub-j c = omega (arith, c.from.ensures, c.requires.few (c.loop-j.j + 1) (omega arith))

pub returns-then-k-j : goal.returns-then-k-j
returns-then-k-j c =
    let few = c.requires.few (c.loop-j.j + 1) (omega arith) in
    holds_returned (omega arith) (omega (arith, c.loop-j.invariant, c.from-k.ensures)) few
    (omega (arith, c.from.ensures, c.from-k.ensures))

pub loop-j-preserved : goal.loop-j-preserved
loop-j-preserved c = omega (arith, c.from.ensures, c.requires.few (c.loop-j.j + 1) (omega arith))

pub returns : goal.returns
returns c =
    let e : c.args.n - 1 ≡ c.loop-j.j = omega arith in
    rw e (holds_last (omega (arith, c.requires.n_nonzero)) (omega (arith, c.loop-j.invariant, c.from-k.ensures))
    (omega arith))
