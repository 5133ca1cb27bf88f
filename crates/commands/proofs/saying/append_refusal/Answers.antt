-- `append_refusal` meets its contract: the pieces of the line, one behind another. Assumes nothing.
use mathlib.Core.Path.{ap}
use Rattle.numerals.specs.Decimals.{decimal}
use Rattle.appending.proofs.Appending.{append-then, append_same}
use Rattle.commands.proofs.saying.append_refusal.Goals as goal

pub returns : goal.returns
returns c =
    let number = append_same (ap decimal c.number.ensures)
    c.append_decimal-numbered.ensures in
    let place = append_same (ap decimal c.place.ensures) c.append_decimal-placed.ensures in
    append-then c.append-named.ensures
    (append-then number
    (append-then c.append-parted.ensures
    (append-then place
    (append-then c.append-colon.ensures
    (append-then (append_same c.reason.ensures c.append-explained.ensures) c.append.ensures)))))
