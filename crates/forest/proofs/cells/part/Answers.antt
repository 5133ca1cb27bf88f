-- `cells::part` meets its contract.
-- Assumes nothing.
use mathlib.Core.Path.{refl}
use Rattle.forest.proofs.Stored.{parted_fork}
use Rattle.forest.proofs.cells.part.Goals as goal

pub returns : goal.returns
returns c =
    let g = c.args in
    parted_fork g.last g.lefts.now g.rights.now g.bush g.bush c.if-bush-last.false refl
