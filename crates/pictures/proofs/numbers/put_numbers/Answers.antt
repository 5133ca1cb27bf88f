-- `put_numbers` meets its contract: the rows with or without the hundreds. Assumes nothing.
use Rattle.appending.proofs.Appending.{append-then, append_same}
use Rattle.pictures.proofs.LeafDigits.{numbers_short, numbers_long}
use Rattle.pictures.proofs.numbers.put_numbers.Goals as goal

pub returns-then-n-lt100 : goal.returns-then-n-lt100
returns-then-n-lt100 c =
    append_same (numbers_short c.args.n c.if-n-lt100.true)
    c.put_tens.ensures

pub returns : goal.returns
returns c =
    append_same (numbers_long c.args.n c.if-n-lt100.false)
    (append-then c.put_digits-e1.ensures c.put_tens-2.ensures)
