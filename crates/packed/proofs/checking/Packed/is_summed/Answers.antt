use native.Mathlib.Omega.{arith}
use Rattle.std.proofs.Common.{rules}
use Rattle.packed.proofs.Sums.{summing_start, summing_more, summing_wrong, summing_right}
use Rattle.packed.proofs.checking.Packed.is_summed.Goals as goal

pub loop-j-init : goal.loop-j-init
loop-j-init c = summing_start c.args.self.numbers.now c.args.self.summary.now c.args.n

pub returns-then-from-count : goal.returns-then-from-count
returns-then-from-count c =
    let r = summing_wrong c.loop-j.invariant (omega arith) (λ e. omega arith) in
    record { summed = r.0; value = r.1 }

pub loop-j-preserved : goal.loop-j-preserved
loop-j-preserved c =
    summing_more c.loop-j.invariant (search rules) (omega arith)
    (omega (arith, c.requires.n_in_bounds)) (omega arith)

pub returns : goal.returns
returns c =
    let r = summing_right c.loop-j.invariant (omega arith) in
    record { summed = r.0; value = r.1 }
