-- `behind` meets its contract: the two cases of a sign. Assumes nothing.
use Rattle.pictures.proofs.Filling.{behind-tilde, behind_other}
use Rattle.pictures.proofs.text.behind.Goals as goal

pub returns-then-x-eq126 : goal.returns-then-x-eq126
returns-then-x-eq126 c = let a = c.args in behind-tilde a.j a.x c.if-x-eq126.true

pub returns-else-x-eq126 : goal.returns-else-x-eq126
returns-else-x-eq126 c = let a = c.args in behind_other a.j a.x c.if-x-eq126.false
