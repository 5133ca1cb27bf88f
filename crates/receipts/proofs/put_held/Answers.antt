-- `put_held` meets its contract: what the lent part gets is written at the place. Assumes nothing.
use Rattle.std.proofs.Common.{◌≡◌, ◌+◌, ◌≤◌, length, take, min, ap, refl, arith}
use Rattle.lists.proofs.Writes.{wrote_same}
use Rattle.rows.specs.Receipts.{receipt_of, receipt_size}
use Rattle.rows.proofs.Sizes.{receipt_length}
use Rattle.receipts.proofs.Placing.{take_min, part_given, part_count, part_wrote}
use Rattle.receipts.proofs.put_held.Goals as goal

pub unwrap-requires : goal.unwrap-requires
unwrap-requires c =
    let g = c.args in
    let kept = take c.min.result g.line.now in
    let least : c.min.result ≡ min g.held (length g.line.now) = omega (arith, c.min.ensures) in
    let whole : kept ≡ take g.held g.line.now = take_min g.held g.line.now least in
    let room : g.at + receipt_size (length kept) ≤ length g.out.now = omega (arith, c.requires, ap length whole) in
    rw (part_given g.at (receipt_of g.number kept) g.out.now (receipt_size (length kept)) c.put_receipt.result room
    c.put_receipt.ensures) refl

pub overflow_add-result : goal.overflow_add-result
overflow_add-result c =
    let g = c.args in
    let kept = take c.min.result g.line.now in
    let least : c.min.result ≡ min g.held (length g.line.now) = omega (arith, c.min.ensures) in
    let whole : kept ≡ take g.held g.line.now = take_min g.held g.line.now least in
    let room : g.at + receipt_size (length kept) ≤ length g.out.now = omega (arith, c.requires, ap length whole) in
    omega (
      arith,
      part_count g.at (receipt_of g.number kept) g.out.now (receipt_size (length kept)) c.put_receipt.result room
          c.unwrap.result c.put_receipt.ensures c.unwrap.ensures,
      receipt_length g.number kept c.ranges.number.fits,
      room,
    )

pub returns : goal.returns
returns c =
    let g = c.args in
    let kept = take c.min.result g.line.now in
    let least : c.min.result ≡ min g.held (length g.line.now) = omega (arith, c.min.ensures) in
    let whole : kept ≡ take g.held g.line.now = take_min g.held g.line.now least in
    let room : g.at + receipt_size (length kept) ≤ length g.out.now = omega (arith, c.requires, ap length whole) in
    wrote_same (ap (receipt_of g.number) whole)
    (part_wrote g.at (receipt_of g.number kept) g.out.now (receipt_size (length kept)) c.put_receipt.result room
    c.unwrap.result c.put_receipt.ensures c.unwrap.ensures)
