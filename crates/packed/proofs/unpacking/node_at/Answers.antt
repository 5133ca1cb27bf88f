-- `node_at` meets its contract. Assumes nothing.
use Rattle.packed.proofs.UnpackSteps.{nodes_at}
use Rattle.packed.proofs.unpacking.node_at.Goals as goal

pub returns : goal.returns
returns c = nodes_at c.args.numbers.now c.args.node c.requires
