-- `powers::go_on` meets its contract: bushes of the stack passed, then zeros put.
-- Assumes nothing.
use native.Mathlib.Omega.{arith}
use Rattle.forest.proofs.Seeking.{moved_zeros}
use Rattle.forest.proofs.powers.go_on.Goals as goal

pub returns : goal.returns
returns c =
    moved_zeros c.move_on-left.ensures c.args.k c.zero_rest.new.table (omega arith) (omega (arith, c.requires.1))
    c.requires.0.room c.move_on-left.auto.before (λ short. omega (arith, c.requires.1)) c.zero_rest.ensures
