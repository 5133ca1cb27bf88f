-- `draw` meets its contract: refused, too large, or drawn. Assumes nothing.
use borrow.Author.Rules.{rules}
use native.Mathlib.Omega.{arith}
use Rattle.commands.proofs.PairAnswers.{pair_shapes}
use Rattle.drawings.proofs.PairPictures.{pair_drawn, pair_large, pair_refused}
use Rattle.drawings.proofs.draw.Goals as goal

pub returns-in-Err : goal.returns-in-Err
returns-in-Err c =
    pair_refused c.args.characters c.refuse.result (search rules) (search rules)
    c.record_to_tree_pair.ensures c.in-Err.is c.refuse.ensures

pub returns-then-n-gt-DRAWN : goal.returns-then-n-gt-DRAWN
returns-then-n-gt-DRAWN c =
    let shapes = pair_shapes c.record_to_tree_pair.ensures _ c.in-Ok.is in
    pair_large (search rules) (search rules) shapes
    c.args.characters c.deny.result (omega arith) c.deny.ensures

pub returns : goal.returns
returns c =
    let shapes = pair_shapes c.record_to_tree_pair.ensures _ c.in-Ok.is in
    pair_drawn (search rules) (search rules) shapes c.args.characters c.finish.result (omega arith)
    c.in-Ok-record_to_length.ensures c.front.ensures c.front-2.ensures
    (search rules) c.put_picture-end.ensures c.finish.ensures
