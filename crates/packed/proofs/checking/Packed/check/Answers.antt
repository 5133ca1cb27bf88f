-- `check` meets its contract. Assumes nothing.
use Rattle.std.proofs.lemmas.Result.{err_from_is_err_and}
use Rattle.packed.proofs.Walks.{begins_with, begins_packed, begins_unpacked, begins_not}
use Rattle.packed.proofs.checking.Packed.check.Goals as goal

pub returns-in_err-nodes : goal.returns-in_err-nodes
returns-in_err-nodes c =
    let p = err_from_is_err_and c.from_residual.result c.from_residual.ensures.1 in
    rw (p.1, p.2) (begins_not c.args.self.numbers.now c.args.self.summary.now _ _ c.in_err-nodes.ensures)

pub is_packed-requires : goal.is_packed-requires
is_packed-requires c = (begins_with _ c.in_ok-nodes.nodes c.in_ok-nodes.ensures).within

pub returns-then-not-is_packed : goal.returns-then-not-is_packed
returns-then-not-is_packed c =
    begins_unpacked c.args.self.summary.now c.is_packed.result (begins_with _ c.in_ok-nodes.nodes c.in_ok-nodes.ensures)
    c.is_packed.ensures c.if-not-is_packed.true

pub returns : goal.returns
returns c =
    begins_packed c.args.self.summary.now c.is_packed.result (begins_with _ c.in_ok-nodes.nodes c.in_ok-nodes.ensures)
    c.is_packed.ensures c.if-not-is_packed.false
