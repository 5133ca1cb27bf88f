-- `put_caret_group` meets its contract: its two pieces. Assumes nothing.
use Rattle.appending.proofs.Appending.{append-then}
use Rattle.pictures.specs.Svg.{caret_group}
use Rattle.pictures.proofs.spans.Spans.put_group.Goals as goal

pub returns : goal.returns
unfolding caret_group
returns c = append-then c.fill-e1.ensures c.put_carets.ensures
