use Rattle.tokens.proofs.TokenParts.{token_no_index, token_no_exponent, token_found}
use Rattle.tokens.proofs.token.read_token.Goals as goal

pub returns-in_err-index : goal.returns-in_err-index
returns-in_err-index c = rw c.from_residual.ensures (token_no_index c.args.text.now c.args.at c.in_err-index.ensures)

pub returns-in_err-exponent : goal.returns-in_err-exponent
returns-in_err-exponent c =
    rw c.from_residual-in_err-exponent.ensures (token_no_exponent c.in_ok-index.ensures c.in_err-exponent.ensures)

pub returns : goal.returns
returns c = token_found c.in_ok-index.ensures c.in_ok-exponent.ensures
