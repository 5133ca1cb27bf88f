-- `shapes_length` meets its contract: the classes of both shapes, then the sum. Assumes nothing.
use Rattle.lengths.proofs.ShapeTables.{shape_readable, shapes_classed, shapes_sum}
use Rattle.lengths.proofs.sums.shapes_length.Goals as goal

pub read_classes-requires : goal.read_classes-requires
read_classes-requires c = shape_readable _ _ c.requires.minus_room c.requires.minus_exact c.requires.few

pub read_classes-requires-2 : goal.read_classes-requires-2
read_classes-requires-2 c = shape_readable _ _ c.requires.plus_room c.requires.plus_exact c.requires.few

pub sum_weights-requires : goal.sum_weights-requires
sum_weights-requires c = shapes_classed c.requires c.read_classes.ensures c.read_classes-2.ensures

pub returns : goal.returns
returns c = shapes_sum c.requires c.read_classes.ensures c.read_classes-2.ensures c.sum_weights.ensures
