-- `leaves::zero_rest` meets its contract: a part filled with zeros. Assumes nothing.
use Rattle.forest.proofs.Zeroing.{zeros_filled}
use Rattle.forest.proofs.leaves.zero_rest.Goals as goal

pub returns : goal.returns
returns c =
    zeros_filled c.args.table.now _ c.args.low c.args.high c.requires.0 c.requires.1
    (c.fill.ensures.after (λ y e. e))
