-- `put_table` meets its contract: its three pieces. Assumes nothing.
use Rattle.appending.proofs.Appending.{append-then}
use Rattle.pictures.specs.Svg.{spans_svg}
use Rattle.pictures.proofs.spans.Spans.put_svg.Goals as goal

pub returns : goal.returns
unfolding spans_svg
returns c =
    append-then c.put_group-e1.ensures
    (append-then c.put_leaf_group-e2.ensures c.put_name.ensures)
