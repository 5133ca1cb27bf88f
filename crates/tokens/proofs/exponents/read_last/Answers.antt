use Rattle.std.proofs.Common.{◌≡◌, false, arith}
use Rattle.std.proofs.lemmas.Bool.Decides.{nat_tests}
use Rattle.tokens.proofs.TokenEnds.{last_read, last_small, last_none}
use Rattle.tokens.proofs.exponents.read_last.Goals.{then-least-found, else-least-found}
use Rattle.tokens.proofs.exponents.read_last.Goals as goal

pub returns-in_err-found : goal.returns-in_err-found
returns-in_err-found c =
    rw c.from_residual.ensures (last_none c.args.text.now c.args.at c.args.least c.in_err-found.ensures)

pub returns : goal.returns
returns c =
    elim c.if-least-found.branch [
      | then-least-found w ↦
          rw (c.then_some.ensures, w.then_some-is, w.at_end.ensures)
          (last_read c.in_ok-found.found c.in_ok-found.ensures w.if-least-found.true)
      | else-least-found w ↦
          let small : c.if-least-found.then_some
          ≡ false = grind (arith, nat_tests, w.then_some-is, w.if-least-found.false) in
          rw (c.then_some.ensures, small) (last_small c.in_ok-found.ensures w.if-least-found.false)
    ]
