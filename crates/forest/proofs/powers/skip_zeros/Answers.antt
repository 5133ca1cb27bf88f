use mathlib.Core.Path.{refl}
use Prim.Native.Nat.{◌-◌}
use native.Mathlib.Omega.{arith}
use Rattle.forest.proofs.Seeking.{going_starts, going_skipped, skips}
use Rattle.forest.proofs.powers.skip_zeros.Goals as goal

pub returns-then-height-ne0 : goal.returns-then-height-ne0
returns-then-height-ne0 c =
    let g = c.args in
    skips (λ stack. going_starts g.before.now stack g.front g.height) g.k g.front refl (omega arith) (omega arith)
    (λ e l z. c.if-height-ne0.true e)

pub loop-i-init : goal.loop-i-init
loop-i-init c =
    let g = c.args in
    (λ stack. going_starts g.before.now stack g.front g.height, omega arith, omega arith)

pub returns-then-before-i-ne0 : goal.returns-then-before-i-ne0
returns-then-before-i-ne0 c =
    let inv = c.loop-i.invariant in
    skips inv.0 c.args.k _ (omega arith) inv.1 inv.2 (λ e l z. c.if-before-i-ne0.true z)

pub loop-i-preserved : goal.loop-i-preserved
loop-i-preserved c =
    let none = c.if-height-ne0.false in
    let inv = c.loop-i.invariant in (
      λ stack. going_skipped (inv.0 stack) (c.loop-i.i - 1) (omega arith) inv.2 none c.if-before-i-ne0.false,
      omega arith,
      omega (arith, inv.2),
    )

pub returns : goal.returns
returns c =
    let inv = c.loop-i.invariant in
    skips inv.0 c.args.k c.args.k (omega (arith, inv.1)) inv.1 inv.2 (λ e l z. omega arith)
