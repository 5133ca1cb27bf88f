-- `serve` meets its contract. Assumes nothing.
use Rattle.std.proofs.Common.{length, refl}
use Rattle.rows.proofs.Rooms.{too_short, long_enough}
use Rattle.receipts.specs.Serving.{part_size}
use Rattle.receipts.proofs.Answers.{part_short, part_taken}
use Rattle.receipts.proofs.serve.Goals as goal

pub returns-then-not-is_enough : goal.returns-then-not-is_enough
returns-then-not-is_enough c =
    let g = c.args in
    part_short g.part.now g.number g.held g.line.now g.out.now _ refl
    (too_short (length g.out.now) (part_size (length g.part.now)) c.is_enough.ensures c.if-not-is_enough.true)

pub serve_lines-requires : goal.serve_lines-requires
serve_lines-requires c =
    let g = c.args in
    long_enough (length g.out.now) (part_size (length g.part.now)) c.is_enough.ensures c.if-not-is_enough.false

pub returns : goal.returns
returns c =
    let g = c.args in
    part_taken g.part.now g.number g.held g.line.now g.out.now
    (long_enough (length g.out.now) (part_size (length g.part.now)) c.is_enough.ensures c.if-not-is_enough.false)
    c.serve_lines.ensures
