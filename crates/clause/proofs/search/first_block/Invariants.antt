-- `first_block` meets its contract. Assumes nothing.
use Prim.Native.Nat.{◌*◌}
use Rattle.clause.specs.inside.Tables.{Unbroken}
use Rattle.clause.proofs.search.first_block.Given as goal

abbrev pub invariant-loop-k : goal.invariant-loop-k
invariant-loop-k l = Unbroken l.b l.a (64 * l.k)
