use native.Mathlib.Omega.{arith}
use Rattle.scans.proofs.Reaching.{scan_started, scan_done}
use Rattle.scans.proofs.Blocks.{ahead}
use Rattle.scans.proofs.scan.scan.Goals as goal

pub loop-p-init : goal.loop-p-init
loop-p-init c = scan_started _ _ _ _ _ c.requires.n_nonzero c.requires.pair_of_tables c.side_at_one.ensures c.side_at_one-2.ensures

pub overflow_cast-p : goal.overflow_cast-p
overflow_cast-p c = omega (arith, c.loop-p.invariant.to_come, c.requires.pair_of_tables.small)

pub scan_block-p-requires : goal.scan_block-p-requires
scan_block-p-requires c =
    ahead c.requires.pair_of_tables c.loop-p.invariant (omega arith)

pub loop-p-smaller : goal.loop-p-smaller
loop-p-smaller c = omega (arith, c.scan_block-p.ensures.on, c.loop-p.invariant.to_come)

pub loop-p-preserved : goal.loop-p-preserved
loop-p-preserved c = c.scan_block-p.ensures.reached _ c.loop-p.invariant

pub returns : goal.returns
returns c = scan_done c.loop-p.invariant (omega arith)
