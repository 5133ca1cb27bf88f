-- `put_name` meets its contract: its three pieces. Assumes nothing.
use Rattle.appending.proofs.Appending.{append-then}
use Rattle.pictures.specs.Svg.{name_svg}
use Rattle.pictures.proofs.svg.put_name.Goals as goal

pub returns : goal.returns
unfolding name_svg
returns c =
    append-then c.fill-e1.ensures
    (append-then c.append-e2.ensures c.append.ensures)
