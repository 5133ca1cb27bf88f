-- `put_head` meets its contract: its two pieces. Assumes nothing.
use Rattle.appending.proofs.Appending.{append-then}
use Rattle.pictures.specs.Svg.{head_svg}
use Rattle.pictures.proofs.svg.put_head.Goals as goal

pub returns : goal.returns
unfolding head_svg
returns c = append-then c.append-e1.ensures c.fill.ensures
