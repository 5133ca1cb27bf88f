-- `read_classes` meets its contract: caret 0, and then from a side. Assumes nothing.
use Rattle.lengths.proofs.LeftEdge.{no_carets, side_ready, side_written}
use Rattle.lengths.proofs.reader.read_classes.Goals as goal

pub read_side-requires : goal.read_side-requires
read_side-requires c = side_ready c.requires _ c.left_edge-lefts.ensures.value c.if-lefts-gt0.true

pub returns-then-lefts-gt0 : goal.returns-then-lefts-gt0
returns-then-lefts-gt0 c =
    side_written c.requires _ c.left_edge-lefts.ensures.value c.if-lefts-gt0.true c.read_side.ensures

pub returns-else-lefts-gt0 : goal.returns-else-lefts-gt0
returns-else-lefts-gt0 c = no_carets c.requires _ c.left_edge-lefts.ensures.value c.if-lefts-gt0.false
