-- `refuse_single` meets its contract: too long, or the only word. Assumes nothing.
use borrow.Author.Rules.{rules}
use native.Mathlib.Omega.{arith}
use Rattle.commands.proofs.Closing.{says_same}
use Rattle.commands.proofs.TwoWords.{single_long, single_short}
use Rattle.commands.proofs.comparing.refuse_single.Goals as goal

pub returns-then-line-gt-LIMIT : goal.returns-then-line-gt-LIMIT
returns-then-line-gt-LIMIT c =
    let x = c.args in
    says_same (single_long x.line.now (omega arith)) c.refuse.ensures

pub returns : goal.returns
returns c =
    let x = c.args in
    says_same (single_short x.line.now (omega arith)) (c.close.ensures _ _ (search rules) c.append-end.ensures)
