-- `put_receipt` meets its contract: the buffer is too short, or the receipt is written. Assumes nothing.
use mathlib.Core.Path.{refl}
use lib.ListN.{length}
use Rattle.refusals.proofs.Placing.{place_short, place_long}
use Rattle.rows.specs.Receipts.{receipt_size}
use Rattle.rows.proofs.Rooms.{too_short, long_enough}
use Rattle.rows.proofs.put_receipt.Goals as goal

pub returns-then-not-is_enough : goal.returns-then-not-is_enough
returns-then-not-is_enough c =
    let g = c.args in
    place_short (receipt_size (length g.line.now)) _ _ _ refl
    (too_short (length g.out.now) (receipt_size (length g.line.now)) c.is_enough.ensures c.if-not-is_enough.true)

pub put_line-requires : goal.put_line-requires
put_line-requires c =
    let g = c.args in
    long_enough (length g.out.now) (receipt_size (length g.line.now)) c.is_enough.ensures c.if-not-is_enough.false

pub returns : goal.returns
returns c =
    let g = c.args in
    place_long (receipt_size (length g.line.now)) _ _ _ refl
    (long_enough (length g.out.now) (receipt_size (length g.line.now)) c.is_enough.ensures c.if-not-is_enough.false)
    c.put_line.ensures
