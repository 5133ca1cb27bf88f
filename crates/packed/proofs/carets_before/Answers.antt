-- `carets_before` meets its contract. Assumes nothing.
use mathlib.Core.Path.{refl, ap, ◌∙◌}
use Prim.Native.Nat.{ℕ, ◌+◌, ◌/◌}
use native.Mathlib.Omega.{arith}
use lib.ListN.{get_or}
use Rattle.std.proofs.lemmas.Result.{err_from_is_err_and}
use Rattle.packed.specs.Packing.{carets_before_value}
use Rattle.packed.proofs.Checked.{checked_is}
use Rattle.packed.proofs.Asking.{answers_refused, answers_beyond, answers_value, read_room, carets_counted}
use Rattle.packed.proofs.carets_before.Goals as goal

pub returns-in_err-nodes : goal.returns-in_err-nodes
returns-in_err-nodes c =
    let args = c.args in
    let p = err_from_is_err_and c.from_residual.result c.from_residual.ensures.1 in
    rw (p.1, p.2) (answers_refused (λ s. carets_before_value s args.node.0) args.numbers.now args.summary.now
    args.node.0 _ _ refl c.in_err-nodes.ensures)

pub returns-then-nodes-k : goal.returns-then-nodes-k
returns-then-nodes-k c =
    let args = c.args in
    let read = checked_is args.numbers.now args.summary.now c.in_ok-nodes.nodes c.in_ok-nodes.ensures in
    answers_beyond (λ s. carets_before_value s args.node.0) args.node.0 read (omega arith)

pub bounds-summary-j : goal.bounds-summary-j
bounds-summary-j c =
    let args = c.args in
    let read = checked_is args.numbers.now args.summary.now c.in_ok-nodes.nodes c.in_ok-nodes.ensures in
    (read_room args.node.0 read (omega arith)).1

pub overflow_cast-result : goal.overflow_cast-result
overflow_cast-result c = record { fits = omega (arith, c.type_inv.summary (c.args.node.0 / 64)) }

pub bounds-numbers-j : goal.bounds-numbers-j
bounds-numbers-j c =
    let args = c.args in
    let read = checked_is args.numbers.now args.summary.now c.in_ok-nodes.nodes c.in_ok-nodes.ensures in
    (read_room args.node.0 read (omega arith)).0

pub overflow_add-result : goal.overflow_add-result
overflow_add-result c =
    let entry = c.type_inv.summary (c.args.node.0 / 64) in
    record { fits = omega (arith, c.carets_below.ensures.upper_bound, entry) }

pub returns : goal.returns
returns c =
    let args = c.args in
    let read = checked_is args.numbers.now args.summary.now c.in_ok-nodes.nodes c.in_ok-nodes.ensures in
    let summed = get_or args.summary.now (args.node.0 / 64) 0 in
    rw c.from.ensures (answers_value (λ s. carets_before_value s args.node.0) args.node.0 _ read (omega arith)
    (ap (λ (n : ℕ). summed + n) c.carets_below.ensures.value
    ∙ carets_counted args.node.0 read (omega arith)))
