-- `subtree_end` meets its contract. Assumes nothing.
use mathlib.Core.Path.{refl}
use native.Mathlib.Omega.{arith}
use Rattle.std.proofs.lemmas.Result.{err_from_is_err_and}
use Rattle.trees.specs.Shapes.{subtree_end_value}
use Rattle.packed.proofs.Checked.{checked_is}
use Rattle.packed.proofs.Asking.{answers_refused, answers_beyond, answers_value, end_reached}
use Rattle.packed.proofs.subtree_end.Goals as goal

pub returns-in_err-nodes : goal.returns-in_err-nodes
returns-in_err-nodes c =
    let args = c.args in
    let p = err_from_is_err_and c.from_residual.result c.from_residual.ensures.1 in
    rw (p.1, p.2) (answers_refused (λ s. subtree_end_value s args.node.0) args.numbers.now args.summary.now
    args.node.0 _ _ refl c.in_err-nodes.ensures)

pub returns-then-nodes-k : goal.returns-then-nodes-k
returns-then-nodes-k c =
    let args = c.args in
    let read = checked_is args.numbers.now args.summary.now c.in_ok-nodes.nodes c.in_ok-nodes.ensures in
    answers_beyond (λ s. subtree_end_value s args.node.0) args.node.0 read (omega arith)

pub returns : goal.returns
returns c =
    let args = c.args in
    let read = checked_is args.numbers.now args.summary.now c.in_ok-nodes.nodes c.in_ok-nodes.ensures in
    answers_value (λ s. subtree_end_value s args.node.0) args.node.0 _ read (omega arith)
    (end_reached args.node.0 c.walk_from.result read (omega arith) c.walk_from.ensures)
