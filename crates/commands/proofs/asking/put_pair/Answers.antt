-- `put_pair` meets its contract: the pieces of the line, one behind another. Assumes nothing.
use Rattle.appending.proofs.Appending.{append-then, append_same}
use Rattle.commands.proofs.PairAnswers.{pair_pieces}
use Rattle.commands.proofs.asking.put_pair.Goals as goal

pub returns : goal.returns
returns c =
    append_same (pair_pieces c.args.n c.args.minus.now c.args.plus.now)
    (append-then c.append_decimal-counted.ensures
    (append-then c.append-parted.ensures
    (append-then c.append_digits-first.ensures
    (append-then c.append-again.ensures (append-then c.append_digits-second.ensures c.append.ensures)))))
