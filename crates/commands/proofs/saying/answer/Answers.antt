-- `answer` meets its contract: the line is closed, or the refusal is said. Assumes nothing.
use mathlib.Core.Path.{sym}
use Rattle.commands.proofs.Closing.{says_same}
use Rattle.commands.proofs.saying.answer.Goals as goal

pub returns-in-Ok : goal.returns-in-Ok
returns-in-Ok c s start size h =
    let p = rw c.in-Ok.is at h in
    says_same (sym p.1) (c.close.ensures p.0 start size p.2)
