-- `put_mark` meets its contract: the byte is written where there is one. Assumes nothing.
use Rattle.updates.proofs.Putting.{mark_put, mark_none}
use Rattle.updates.proofs.writing.put_mark.Goals as goal

pub returns-then-at-out : goal.returns-then-at-out
returns-then-at-out c = mark_put c.args.at c.args.out.now c.if-at-out.true

pub returns-else-at-out : goal.returns-else-at-out
returns-else-at-out c = mark_none c.args.at c.args.out.now c.if-at-out.false
