use native.Mathlib.Omega.{arith}
use Rattle.lengths.proofs.SumSteps.{sum_start, sum_more, sum_next, sum_fits, sum_done}
use Rattle.lengths.proofs.sums.sum_weights.Goals as goal

pub loop-k-init : goal.loop-k-init
loop-k-init c = sum_start c.requires

pub overflow_add-sum : goal.overflow_add-sum
overflow_add-sum c =
    let inv = c.loop-k.invariant in
    let more =
    sum_more inv c.kind.result c.kind-in-loop-k.result (omega arith) (omega arith) c.kind.ensures
    c.kind-in-loop-k.ensures c.weight.ensures in
    omega (arith, sum_fits more)

pub loop-k-preserved : goal.loop-k-preserved
loop-k-preserved c =
    let m = c.before-m.ensures in
    let p = c.before-p.ensures in
    sum_next c.loop-k.invariant c.kind.result c.kind-in-loop-k.result (omega arith) (omega arith) c.kind.ensures
    c.kind-in-loop-k.ensures c.weight.ensures m.next m.later p.next p.later

pub returns : goal.returns
returns c = sum_done c.loop-k.invariant (omega arith)
