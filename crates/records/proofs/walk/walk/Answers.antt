use Prim.Native.Nat.{◌<◌}
use native.Mathlib.Omega.{arith}
use Rattle.records.proofs.Walks.{walk_starts, walk_next, walk_stops, walk_ends_b, walk_ends_a}
use Rattle.records.proofs.Walks.{passed_inside, passed_fewer}
use Rattle.records.proofs.walk.walk.Goals as goal

pub loop-p-init : goal.loop-p-init
loop-p-init c = walk_starts c.requires

pub number_at-j-requires : goal.number_at-j-requires
number_at-j-requires c =
    let some-a : 0 < c.loop-p.q.left = c.if-q-gt0.true in
    omega (arith, some-a, c.loop-p.invariant.q_inside.within)

pub passed-next_q-requires : goal.passed-next_q-requires
passed-next_q-requires c =
    let some-a : 0 < c.loop-p.q.left = c.if-q-gt0.true in
    omega (arith, some-a, c.loop-p.invariant.q_inside.within)

pub broken-requires : goal.broken-requires
broken-requires c =
    let some-a : 0 < c.loop-p.q.left = c.if-q-gt0.true in
    let i = c.number_at-i.result in
    let j = c.number_at-j.result in
    let s = c.args.s.now in (
      passed_inside s c.loop-p.p i j c.passed-next_p.ensures c.loop-p-test.true
          c.loop-p.invariant.p_inside,
      passed_inside s c.loop-p.q j i c.passed-next_q.ensures some-a c.loop-p.invariant.q_inside,
      c.number_at-i.ensures.upper_bound,
    )

pub returns-then-broken : goal.returns-then-broken
returns-then-broken c =
    let some-a : 0 < c.loop-p.q.left = c.if-q-gt0.true in
    walk_stops c.loop-p.invariant c.loop-p-test.true some-a _ _
    c.number_at-i.ensures.value c.number_at-j.ensures.value c.passed-next_p.ensures
    c.passed-next_q.ensures c.broken.ensures c.requires c.if-broken.true

pub loop-p-smaller : goal.loop-p-smaller
loop-p-smaller c =
    let some-a : 0 < c.loop-p.q.left = c.if-q-gt0.true in
    passed_fewer c.loop-p.p c.loop-p.q c.number_at-i.result c.number_at-j.result
    c.loop-p-test.true some-a
    c.passed-next_p.ensures c.passed-next_q.ensures

pub loop-p-preserved : goal.loop-p-preserved
loop-p-preserved c =
    let some-a : 0 < c.loop-p.q.left = c.if-q-gt0.true in
    walk_next c.loop-p.invariant c.loop-p-test.true some-a _ _
    c.number_at-i.ensures.value c.number_at-j.ensures.value c.passed-next_p.ensures
    c.passed-next_q.ensures c.broken.ensures c.if-broken.false

pub returns-else-q-gt0 : goal.returns-else-q-gt0
returns-else-q-gt0 c = walk_ends_a c.requires c.loop-p.invariant c.if-q-gt0.false

pub returns-after-loop-p : goal.returns-after-loop-p
returns-after-loop-p c = walk_ends_b c.requires c.loop-p.invariant (omega arith)
