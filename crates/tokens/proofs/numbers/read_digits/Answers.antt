use Rattle.std.proofs.Common.{arith}
use Rattle.tokens.proofs.DigitRuns.{run_more, run_large}
use Rattle.tokens.proofs.numbers.read_digits.Goals as goal

pub returns-in_err-value : goal.returns-in_err-value
returns-in_err-value c =
    rw c.from_residual.ensures
    (run_large c.loop-end.invariant c.loop-end-test.true (omega (arith, c.if-not-is_ascii_digit.ensures.cases))
    c.in_err-value.ensures)

pub loop-end-preserved : goal.loop-end-preserved
loop-end-preserved c =
    let h = c.in_ok-value.ensures in
    run_more c.loop-end.invariant c.loop-end-test.true (omega (arith, c.if-not-is_ascii_digit.ensures.cases)) h.0 h.1
