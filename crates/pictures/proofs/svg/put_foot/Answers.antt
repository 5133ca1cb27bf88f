-- `put_foot` meets its contract: one text with three numbers. Assumes nothing.
use Rattle.pictures.specs.Svg.{foot_svg}
use Rattle.pictures.proofs.svg.put_foot.Goals as goal

pub returns : goal.returns
unfolding foot_svg
returns c = c.fill.ensures
