-- `place_decimal` meets its contract: the digits that are found are those of the number. Assumes nothing.
use Rattle.numerals.proofs.Decimals.{digits_found}
use Rattle.printing.proofs.Fitting.{placed_same}
use Rattle.printing.proofs.place_decimal.Goals as goal

pub returns : goal.returns
returns c =
    let made = c.decimal-k.ensures in
    placed_same (digits_found c.args.n c.decimal-k.result made.len made.digits) c.place.ensures
