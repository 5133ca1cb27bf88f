-- `finish` meets its contract. Assumes nothing.
use Rattle.std.proofs.Common.{refl, arith, length-take}
use Rattle.receipts.specs.Serving.{line_size}
use Rattle.rows.specs.Receipts.{receipt_size}
use Rattle.refusals.proofs.Placing.{place_short, place_long}
use Rattle.receipts.proofs.Placing.{last_none, last_some}
use Rattle.receipts.proofs.finish.Goals as goal

pub returns-then-out-lt-LONG_RECEIPT : goal.returns-then-out-lt-LONG_RECEIPT
returns-then-out-lt-LONG_RECEIPT c = place_short (receipt_size line_size) _ _ _ refl (omega arith)

pub returns-then-held-eq0 : goal.returns-then-held-eq0
returns-then-held-eq0 c =
    let g = c.args in
    place_long (receipt_size line_size) _ _ _ refl (omega arith)
    (last_none g.number g.held g.line.now g.out.now (omega arith))

pub put_held-requires : goal.put_held-requires
put_held-requires c = omega (arith, c.told-line, length-take c.args.held c.args.line.now)

pub returns : goal.returns
returns c =
    let g = c.args in
    place_long (receipt_size line_size) _ _ _ refl (omega arith)
    (last_some g.number g.held g.line.now c.if-held-eq0.false (omega (arith, c.told-line)) c.put_held.ensures)
