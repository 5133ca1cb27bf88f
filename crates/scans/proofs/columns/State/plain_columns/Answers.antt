use native.Mathlib.Omega.{arith}
use Rattle.scans.proofs.Loops.{upto_start, upto_ready, upto_more, upto_done}
use Rattle.scans.proofs.columns.State.plain_columns.Goals as goal

pub loop-leaf-init : goal.loop-leaf-init
loop-leaf-init c = upto_start c.requires

pub column-s-requires : goal.column-s-requires
column-s-requires c =
    upto_ready c.requires c.loop-leaf.invariant (omega arith) _ _ c.exponent.ensures c.exponent-in-loop-leaf.ensures

pub loop-leaf-preserved : goal.loop-leaf-preserved
loop-leaf-preserved c =
    upto_more c.requires c.loop-leaf.invariant (omega arith) _ _ c.exponent.ensures
    c.exponent-in-loop-leaf.ensures _ c.column-s.ensures

pub returns : goal.returns
returns c = upto_done c.loop-leaf.invariant (omega arith)
