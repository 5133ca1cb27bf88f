-- `put_foot` meets its contract: one text with two numbers. Assumes nothing.
use Rattle.pictures.specs.Characters.{foot_characters}
use Rattle.pictures.proofs.characters.put_foot.Goals as goal

pub returns : goal.returns
unfolding foot_characters
returns c = c.fill.ensures
