-- `zeros::known_zeros` meets its contract. Assumes nothing.
use native.Mathlib.Omega.{arith}
use Rattle.trees.proofs.ZeroBlocks.{zeros_behind, zeros_fewer}
use Rattle.trees.proofs.zeros.known_zeros.Goals as goal

pub returns-then-e-from : goal.returns-then-e-from
returns-then-e-from c = zeros_behind _ _ _ (omega arith)

pub returns : goal.returns
returns c = zeros_fewer (c.zero_block.ensures c.if-not-zero_block.false) _ _ (omega arith) (omega arith)
