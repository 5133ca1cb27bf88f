-- `put_leaf` meets its contract: one text with two numbers. Assumes nothing.
use Rattle.pictures.specs.Svg.{leaf_svg}
use Rattle.pictures.proofs.svg.put_leaf.Goals as goal

pub returns : goal.returns
unfolding leaf_svg
returns c = c.fill.ensures
