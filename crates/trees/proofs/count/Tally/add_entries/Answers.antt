use mathlib.Core.Path.{◌≡◌, refl, subst}
use Prim.Native.Nat.{ℕ, ◌-◌}
use native.Mathlib.Omega.{arith}
use Rattle.trees.specs.inside.Counting.{Counted}
use Rattle.trees.proofs.Counting.{count_more}
use Rattle.trees.proofs.count.Tally.add_entries.Goals as goal

pub loop-i-preserved : goal.loop-i-preserved
loop-i-preserved c =
    let loop = c.loop-i in
    let word = c.type_inv.e (loop.i - 1) in record {
      above = omega arith;
      counted = count_more loop.invariant.counted _ _ _ _ (omega arith) refl (omega arith) refl
          (omega (arith, c.max-carets.ensures));
    }

pub returns : goal.returns
returns c =
    let end : c.loop-i.i ≡ c.saturating_sub-from.result = omega (arith, c.loop-i.invariant.above) in
    record {
      on = omega (arith, c.saturating_sub-from.ensures, c.requires.more);
      counted = subst (λ (i : ℕ). Counted c.args.e.now i c.loop-i.sum c.loop-i.carets) end c.loop-i.invariant.counted;
    }
