use Rattle.std.proofs.Common.{arith}
use Rattle.lines.proofs.Counts.{feeds_end, feeds_more, feeds_none}
use Rattle.lines.proofs.counting.count_feeds.Goals as goal
use Rattle.lines.proofs.counting.count_feeds.Goals.{then-x-eq-LINE_FEED, else-x-eq-LINE_FEED}

pub loop-x-preserved : goal.loop-x-preserved
loop-x-preserved c =
    let at = c.loop-x in
    let s = c.args.bytes.now in
    let lt = c.loop-x-test.true in
    elim c.if-x-eq-LINE_FEED.branch [
      | then-x-eq-LINE_FEED w ↦
          (omega arith, omega (arith, feeds_end s at.x-index lt w.if-x-eq-LINE_FEED.true, at.invariant.1))
      | else-x-eq-LINE_FEED w ↦
          (omega arith, omega (arith, feeds_more s at.x-index lt w.if-x-eq-LINE_FEED.false, at.invariant.1))
    ]

pub returns : goal.returns
returns c =
    let at = c.loop-x in
    omega (arith, feeds_none c.args.bytes.now at.x-index c.loop-x-test.false, at.invariant.1)
