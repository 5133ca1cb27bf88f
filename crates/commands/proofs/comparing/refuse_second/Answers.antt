-- `refuse_second` meets its contract: the words, then the line of the refusal. Assumes nothing.
use borrow.Author.Rules.{rules}
use Rattle.appending.proofs.Appending.{append-then}
use Rattle.commands.proofs.comparing.refuse_second.Goals as goal

pub returns : goal.returns
returns c =
    c.close.ensures _ _ (search rules)
    (append-then c.append-named.ensures c.append_refusal-end.ensures)
