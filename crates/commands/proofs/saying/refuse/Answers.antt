-- `refuse` meets its contract: the line of the refusal, closed. Assumes nothing.
use borrow.Author.Rules.{rules}
use Rattle.commands.proofs.saying.refuse.Goals as goal

pub returns : goal.returns
returns c = c.close.ensures _ _ (search rules) c.append_refusal-end.ensures
