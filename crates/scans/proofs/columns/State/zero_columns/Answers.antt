use native.Mathlib.Omega.{arith}
use Rattle.scans.proofs.Loops.{pass_start, stretch_some, stretch_few, pass_stretch, pass_more, pass_done}
use Rattle.scans.proofs.columns.State.zero_columns.Goals as goal

pub loop-left-init : goal.loop-left-init
loop-left-init c = pass_start _ _

pub stretch-s-requires : goal.stretch-s-requires
stretch-s-requires c = pass_stretch c.requires c.loop-left.invariant (omega arith) _ _ c.run.ensures c.run-c.ensures

pub overflow_sub-left : goal.overflow_sub-left
overflow_sub-left c =
    stretch_few c.requires c.loop-left.invariant (omega arith) _ _ c.run.ensures
    c.run-c.ensures

pub loop-left-smaller : goal.loop-left-smaller
loop-left-smaller c =
    omega (
      arith,
      stretch_some c.requires c.loop-left.invariant (omega arith) _ _ c.run.ensures
          c.run-c.ensures,
    )

pub loop-left-preserved : goal.loop-left-preserved
loop-left-preserved c =
    pass_more c.requires c.loop-left.invariant (omega arith) _ _ c.run.ensures
    c.run-c.ensures _ c.stretch-s.ensures

pub returns : goal.returns
returns c = pass_done c.loop-left.invariant (omega arith)
