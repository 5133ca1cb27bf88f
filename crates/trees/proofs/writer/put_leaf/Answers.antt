-- `put_leaf` meets its contract. Assumes nothing.
use native.Mathlib.Omega.{arith}
use Rattle.trees.proofs.WriteSteps.{own_wrote, filled_part}
use Rattle.trees.proofs.writer.put_leaf.Goals as goal

pub returns : goal.returns
returns c =
    let part = c.fill.ensures.after (λ y e. e) in
    own_wrote _ _ _ _ (filled_part c.args.n c.args.at c.args.shape.now _ (omega arith) part)
