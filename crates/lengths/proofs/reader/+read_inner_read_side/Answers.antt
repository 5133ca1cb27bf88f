use Rattle.lengths.proofs.Sides.{right_written, last_written}
use Rattle.lengths.proofs.reader.+read_inner_read_side.Goals as goal

pub read_side-returns-then-shape-from-eq1 : goal.read_side-returns-then-shape-from-eq1
read_side-returns-then-shape-from-eq1 t c =
    right_written c.requires c.if-lefts-gt0.false c.if-shape-from-eq1.true c.read_inner-then-shape-from-eq1.ensures

pub read_side-returns-else-shape-from-eq1 : goal.read_side-returns-else-shape-from-eq1
read_side-returns-else-shape-from-eq1 t c = last_written c.requires c.if-lefts-gt0.false c.if-shape-from-eq1.false
