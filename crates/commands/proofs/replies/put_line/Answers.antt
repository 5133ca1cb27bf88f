-- `put_line` meets its contract: the text, then byte 0A hex. Assumes nothing.
use Rattle.appending.proofs.Appending.{append-then}
use Rattle.commands.proofs.replies.put_line.Goals as goal

pub returns : goal.returns
returns c = append-then c.append-end.ensures c.append.ensures
