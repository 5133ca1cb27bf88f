-- `refuse_stray` meets its contract: the pieces of the line, one behind another. Assumes nothing.
use borrow.Author.Rules.{rules}
use Rattle.appending.proofs.Appending.{append-then, append_same}
use Rattle.commands.proofs.ReadAnswers.{stray_pieces}
use Rattle.commands.proofs.reading.refuse_stray.Goals as goal

pub returns : goal.returns
returns c =
    c.close.ensures _ _ (search rules)
    (append_same (stray_pieces c.args.offset)
    (append-then c.append-named.ensures (append-then c.append_decimal-placed.ensures c.append-end.ensures)))
