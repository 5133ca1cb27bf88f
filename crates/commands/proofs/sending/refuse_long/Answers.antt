-- `refuse_long` meets its contract: the line, closed. Assumes nothing.
use borrow.Author.Rules.{rules}
use Rattle.commands.proofs.sending.refuse_long.Goals as goal

pub returns : goal.returns
returns c = c.close.ensures _ _ (search rules) c.append-end.ensures
