-- `carets_below` meets its contract. Assumes nothing.
use Rattle.bitrows.proofs.Masks.{ones_at}
use Rattle.bitrows.proofs.carets_below.Goals as goal

pub returns-clause-value : goal.returns-clause-value
returns-clause-value c = ones_at c.args.x c.bit_of-k.result c.args.node.0 c.bit_of-k.ensures
