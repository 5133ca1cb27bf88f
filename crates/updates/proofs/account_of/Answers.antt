-- `account_of` meets its contract: the overview has the live entries of the holder. Assumes nothing.
use Rattle.std.proofs.lemmas.Result.{err_from_is_err_and}
use Rattle.updates.proofs.AccountReads.{account_found, account_refused}
use Rattle.updates.proofs.account_of.Goals as goal

pub returns-in_err-o : goal.returns-in_err-o
returns-in_err-o c =
    let p = err_from_is_err_and c.from_residual.result c.from_residual.ensures.1 in
    rw (p.1, p.2) (account_refused c.summary.ensures c.in_err-o.was)

pub returns : goal.returns
returns c = account_found c.summary.ensures c.in_ok-o.was
