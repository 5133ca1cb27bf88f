-- `judge` meets its contract: no register, or the decision by its overview and the search. Assumes nothing.
use Rattle.std.proofs.lemmas.Result.{err_from_is_err_and}
use Rattle.updates.proofs.Decisions.{judged_refused, judged_decides}
use Rattle.updates.proofs.deciding.judge.Goals as goal

pub returns-in_err-o : goal.returns-in_err-o
returns-in_err-o c =
    let p = err_from_is_err_and c.from_residual.result c.from_residual.ensures.1 in
    rw (p.1, p.2) (judged_refused _ c.summary.ensures c.in_err-o.was)

pub returns : goal.returns
returns c = judged_decides _ c.summary.ensures c.in_ok-o.was c.find.ensures c.settle.ensures
