use Rattle.tokens.proofs.TokenParts.{minus_found, minus_none, plain_found, plain_none}
use Rattle.tokens.proofs.exponents.read_signed.Goals as goal

pub returns-in_err-found : goal.returns-in_err-found
returns-in_err-found c =
    rw c.from_residual.ensures (minus_none c.args.text.now c.args.at c.if-stands.ensures c.in_err-found.ensures)

pub returns-then-stands : goal.returns-then-stands
returns-then-stands c = minus_found c.args.text.now c.args.at c.if-stands.ensures c.in_ok-found.ensures

pub returns-in_err-found-2 : goal.returns-in_err-found-2
returns-in_err-found-2 c =
    rw c.from_residual-in_err-found-2.ensures
    (plain_none c.args.text.now c.args.at c.if-stands.ensures c.in_err-found-2.ensures)

pub returns : goal.returns
returns c = plain_found c.args.text.now c.args.at c.in_ok-found-2.ensures
