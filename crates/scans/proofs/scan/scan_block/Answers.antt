-- `scan_block` meets its contract. Assumes nothing.
use native.Mathlib.Omega.{arith}
use mathlib.Core.Path.{refl}
use Rattle.scans.proofs.Blocks.{zeros_passing, zeros_scanned, plain_scanning, plain_scanned}
use Rattle.scans.proofs.scan.scan_block.Goals as goal

pub zero_columns-requires : goal.zero_columns-requires
zero_columns-requires c =
    zeros_passing c.requires _ _ c.known_zeros.ensures c.known_zeros-zeros.ensures (omega arith)

pub returns-then-zeros-gt0 : goal.returns-then-zeros-gt0
returns-then-zeros-gt0 c =
    zeros_scanned c.requires _ _ c.known_zeros.ensures c.known_zeros-zeros.ensures (omega arith) _ refl
    c.zero_columns.ensures

pub plain_columns-requires : goal.plain_columns-requires
plain_columns-requires c =
    plain_scanning c.requires _ c.block_end-stop.ensures

pub returns : goal.returns
returns c = plain_scanned c.requires _ c.block_end-stop.ensures _ refl c.plain_columns.ensures
