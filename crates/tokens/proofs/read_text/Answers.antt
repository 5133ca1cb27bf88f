use Rattle.std.proofs.Common.{◌≡◌, Err, arith}
use Rattle.std.proofs.lemmas.Result.{err_from_is_err_and}
use Rattle.std.proofs.lemmas.Bool.Decides.{nat_tests}
use Rattle.refusals.specs.declared.Refusal.TheVariants.{Misspelled}
use Rattle.tokens.proofs.TextSteps.{reading_keeps, reading_more, reading_misspelled, reading_done, reading_empty}
use Rattle.tokens.proofs.read_text.Goals as goal

pub returns-then-is_empty : goal.returns-then-is_empty
returns-then-is_empty c = reading_empty _ _ _ _ (grind (arith, nat_tests, c.if-is_empty.ensures))

pub returns-in_err-power : goal.returns-in_err-power
returns-in_err-power c =
    let e = err_from_is_err_and c.from_residual.result c.from_residual.ensures.1 in
    let refused = rw c.in_err-power.ensures.ok_part at c.in_err-power.ensures.value in
    let same : c.from_residual.result ≡ Err (Misspelled c.loop-at.at) = cc (e.1, e.2, refused) in
    rw same
    (reading_misspelled c.loop-at.invariant c.loop-at-test.true (λ z. grind (arith, nat_tests, c.if-is_empty.ensures))
    (rw c.in_err-power.ensures.ok_part at c.read_token.ensures))

pub loop-at-preserved : goal.loop-at-preserved
loop-at-preserved c =
    let token = rw c.in_ok-power.ensures.ok_part at c.read_token.ensures in
    reading_more c.loop-at.invariant c.loop-at-test.true token
    (reading_keeps c.loop-at.invariant token (omega arith) (omega arith) (omega arith)) c.keep-powers.ensures

pub returns : goal.returns
returns c = rw c.ok_or-2.ensures.value (reading_done _ c.loop-at.invariant c.loop-at-test.false)
