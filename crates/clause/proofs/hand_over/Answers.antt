-- `hand_over` meets its contract: the clause, then the copies. Assumes nothing.
use mathlib.Core.Path.{refl}
use native.Mathlib.Omega.{arith}
use Rattle.group.specs.Forms.{b_side, a_side}
use Rattle.std.proofs.Common.{Err}
use Rattle.std.proofs.lemmas.Result.{err_from_is_err_and}
use Rattle.clause.proofs.Handing.{into_refused, into_short, into_filled}
use Rattle.clause.proofs.Handing.{find_refused, find_accepted, copied_shown}
use Rattle.clause.proofs.hand_over.Goals as goal

pub returns-in_err-check_tables : goal.returns-in_err-check_tables
returns-in_err-check_tables c = λ f h.
    let p = err_from_is_err_and c.from_residual.result c.from_residual.ensures.1 in
    rw (p.1, p.2)
    (into_refused (Err _) (find_refused f _ (c.check_tables.ensures f h) c.in_err-check_tables.was) refl)

pub returns-then-b_table-lt-HANDED : goal.returns-then-b_table-lt-HANDED
returns-then-b_table-lt-HANDED c =
    let args = c.args in
    λ f h. into_short args.b_table.now args.a_table.now
    (find_accepted f _ (c.check_tables.ensures f h) c.in_ok-check_tables.was) c.then-b_table-lt-HANDED.either

pub returns : goal.returns
returns c =
    let args = c.args in
    λ f h. into_filled args.b_table.now args.a_table.now
    (find_accepted f _ (c.check_tables.ensures f h) c.in_ok-check_tables.was)
    c.if-b_table-lt-HANDED.false c.if-a_table-lt-HANDED.false
    (copied_shown f b_side c.copy_front.ensures (omega arith) c.if-b_table-lt-HANDED.false (λ i le. (h i le).0))
    (copied_shown f a_side c.copy_front-2.ensures (omega arith) c.if-a_table-lt-HANDED.false (λ i le. (h i le).1))
