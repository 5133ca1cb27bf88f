-- `handing::read_pile` meets its contract: the own tables show the form, and are handed over. Assumes nothing.
use Rattle.forest.proofs.HandedOver.{tips_shown}
use Rattle.forest.proofs.handing.read_pile.Goals as goal

pub returns : goal.returns
returns c = λ ps w on. c.hand_over.ensures ps (tips_shown c.read_off-levels.ensures ps w on)
