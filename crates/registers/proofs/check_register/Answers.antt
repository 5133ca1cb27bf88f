-- `check_register` meets its contract: by what `summary` ensures. Assumes nothing.
use Rattle.std.proofs.lemmas.Result.{err_from_is_err_and}
use Rattle.registers.proofs.Summing.{checked_register, checked_refused}
use Rattle.registers.proofs.check_register.Goals as goal

pub returns-in_err-summary : goal.returns-in_err-summary
returns-in_err-summary c =
    let p = err_from_is_err_and c.from_residual.result c.from_residual.ensures.1 in
    rw (p.1, p.2) (checked_refused c.summary.ensures c.in_err-summary.was)

pub returns : goal.returns
returns c = checked_register c.summary.ensures c.in_ok-summary.was
