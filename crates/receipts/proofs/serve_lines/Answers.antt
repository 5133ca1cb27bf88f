use Rattle.std.proofs.Common.{refl, ◌∙◌}
use Rattle.lists.proofs.Writes.{writing_length}
use Rattle.receipts.proofs.Serves.{serve_start, serve_less, serve_room, serve_next}
use Rattle.receipts.proofs.Serves.{serve_out_less, serve_out, serve_done}
use Rattle.receipts.proofs.serve_lines.Goals as goal

pub loop-at-init : goal.loop-at-init
loop-at-init c = (serve_start _ _ _ _ _ c.ranges.number.fits c.requires, c.told-line)

pub put_held-requires : goal.put_held-requires
put_held-requires c = serve_room c.loop-at.invariant.0 c.feed-fed.ensures c.if-fed.true c.loop-at.invariant.1

pub loop-at-smaller-then-fed : goal.loop-at-smaller-then-fed
loop-at-smaller-then-fed c =
    serve_less c.loop-at.invariant.0 c.feed-fed.ensures c.if-fed.true c.loop-at-test.true

pub loop-at-preserved-then-fed : goal.loop-at-preserved-then-fed
loop-at-preserved-then-fed c =
    let at = c.loop-at in (
      serve_next at.invariant.0 c.feed-fed.ensures c.if-fed.true c.put_held.ensures refl,
      c.feed-fed.auto.line ∙ at.invariant.1,
    )

pub loop-at-smaller : goal.loop-at-smaller
loop-at-smaller c = serve_out_less c.loop-at.invariant.0 c.feed-fed.ensures c.if-fed.false c.loop-at-test.true

pub loop-at-preserved : goal.loop-at-preserved
loop-at-preserved c =
    let at = c.loop-at in
    (serve_out at.invariant.0 c.feed-fed.ensures c.if-fed.false, c.feed-fed.auto.line ∙ at.invariant.1)

pub shape_of-out : goal.shape_of-out
shape_of-out c = writing_length c.loop-at.invariant.0.left.writing

pub returns : goal.returns
returns c = serve_done c.loop-at.invariant.0 c.loop-at-test.false
