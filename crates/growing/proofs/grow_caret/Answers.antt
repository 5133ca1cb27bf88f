-- `grow_caret` meets its contract. Assumes nothing.
use mathlib.Core.Path.{refl, ap}
use mathlib.Core.Logic.{inl, inr}
use native.Mathlib.Omega.{arith}
use Rattle.std.proofs.lemmas.Result.{err_from_is_err_and}
use Rattle.refusals.specs.Outcomes.{accepted}
use Rattle.packed.proofs.Checked.{checked_is}
use Rattle.growing.proofs.GrowAnswers.{checked_leaf, checked_growable, answer_refused, answer-beyond}
use Rattle.growing.proofs.GrowAnswers.{answer_full, answer_short, answer-grown}
use Rattle.growing.proofs.grow_caret.Goals.{then-nodes-from-via-then-nodes-from}
use Rattle.growing.proofs.grow_caret.Goals.{then-nodes-from-via-else-nodes-from+then-nodes}
use Rattle.growing.proofs.grow_caret.Goals.{then-numbers-n-via-then-numbers-n}
use Rattle.growing.proofs.grow_caret.Goals.{then-numbers-n-via-else-numbers-n+then-summary-n}
use Rattle.growing.proofs.grow_caret.Goals as goal

pub returns-in_err-nodes : goal.returns-in_err-nodes
returns-in_err-nodes c =
    let p = err_from_is_err_and c.from_residual.result c.from_residual.ensures.1 in
    rw (p.1, p.2) (answer_refused c.args.leaf.0 _ c.in_err-nodes.ensures refl)

pub returns-then-nodes-from : goal.returns-then-nodes-from
returns-then-nodes-from c =
    let checked = checked_is c.args.numbers.now c.args.summary.now c.in_ok-nodes.nodes c.in_ok-nodes.ensures in
    elim c.then-nodes-from.branch [
      | then-nodes-from-via-then-nodes-from w ↦
          answer-beyond checked c.args.leaf.0 _ (omega (arith, w.if-nodes-from.true)) refl
      | then-nodes-from-via-else-nodes-from+then-nodes w ↦
          answer_full checked c.args.leaf.0 _ (omega (arith, w.if-nodes.true)) refl
    ]

pub returns-then-numbers-n : goal.returns-then-numbers-n
returns-then-numbers-n c =
    let checked = checked_is c.args.numbers.now c.args.summary.now c.in_ok-nodes.nodes c.in_ok-nodes.ensures in
    elim c.then-numbers-n.branch [
      | then-numbers-n-via-then-numbers-n w ↦
          answer_short checked c.args.leaf.0 (omega arith) (omega arith) _
          (inl (omega (arith, c.numbers_of-n.ensures, w.if-numbers-n.true))) refl
      | then-numbers-n-via-else-numbers-n+then-summary-n w ↦
          answer_short checked c.args.leaf.0 (omega arith) (omega arith) _
          (inr (omega (arith, c.numbers_of-n.ensures, w.if-summary-n.true))) refl
    ]

pub leaf_node-node-requires : goal.leaf_node-node-requires
leaf_node-node-requires c =
    let checked = checked_is c.args.numbers.now c.args.summary.now c.in_ok-nodes.nodes c.in_ok-nodes.ensures in
    checked_leaf checked c.args.leaf.0 (omega arith)

pub insert-requires : goal.insert-requires
insert-requires c =
    let checked = checked_is c.args.numbers.now c.args.summary.now c.in_ok-nodes.nodes c.in_ok-nodes.ensures in
    checked_growable checked.held c.leaf_node-node.ensures (record {
      in_numbers = omega (arith, c.numbers_of-n.ensures);
      in_summary = omega (arith, c.numbers_of-n.ensures);
    })

pub returns : goal.returns
returns c =
    let checked = checked_is c.args.numbers.now c.args.summary.now c.in_ok-nodes.nodes c.in_ok-nodes.ensures in
    answer-grown checked c.args.leaf.0 (omega arith) (omega arith) _ c.leaf_node-node.ensures (record {
      in_numbers = omega (arith, c.numbers_of-n.ensures);
      in_summary = omega (arith, c.numbers_of-n.ensures);
    }) c.insert.ensures (ap accepted c.numbers_of-n.ensures)
