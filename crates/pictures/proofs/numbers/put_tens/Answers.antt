-- `put_tens` meets its contract: one row, or two. Assumes nothing.
use Rattle.appending.proofs.Appending.{append-then, append_same}
use Rattle.pictures.proofs.LeafDigits.{tens_short, tens_long}
use Rattle.pictures.proofs.numbers.put_tens.Goals as goal

pub returns-then-n-lt10 : goal.returns-then-n-lt10
returns-then-n-lt10 c = append_same (tens_short c.args.n c.if-n-lt10.true) c.put_digits.ensures

pub returns : goal.returns
returns c =
    append_same (tens_long c.args.n c.if-n-lt10.false)
    (append-then c.put_digits-e1.ensures c.put_digits-2.ensures)
