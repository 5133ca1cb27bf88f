-- `cells::join` meets its contract: a merged tip, or a new cell.
-- Assumes nothing.
use native.Mathlib.Omega.{arith}
use Rattle.forest.proofs.Joining.{join_added}
use Rattle.forest.proofs.cells.join.Goals as goal

pub returns : goal.returns
returns c =
    let g = c.args in
    let sizes = c.requires in
    join_added g.last g.lefts.now g.rights.now g.used g.left g.right (omega (arith, sizes))
    (omega (arith, sizes)) sizes.1 (λ m. omega (arith, c.else-right-eq0.either, m))
