-- `handing::hand_over` meets its contract: the refusals, then the copies. Assumes nothing.
use native.Mathlib.Omega.{arith}
use Rattle.forest.proofs.HandedOver.{handed}
use Rattle.forest.proofs.handing.hand_over.Goals as goal

pub returns : goal.returns
returns c =
    let args = c.args in
    λ ps s. handed args.b_table.now args.a_table.now ps s c.if-levels-ne0.false c.if-b_table-lt-TABLE.false
    c.if-a_table-lt-TABLE.false (omega arith) (omega arith) c.copy_front.ensures c.copy_front-2.ensures
