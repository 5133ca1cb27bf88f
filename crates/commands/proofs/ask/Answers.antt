-- `ask` meets its contract: the line that is put, or the refusal. Assumes nothing.
use borrow.Author.Rules.{rules}
use Rattle.commands.proofs.ask.Goals as goal

pub returns : goal.returns
returns c = c.answer.ensures _ _ (search rules) c.reply-line.ensures
