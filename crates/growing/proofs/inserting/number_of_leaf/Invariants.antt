-- `number_of_leaf` meets its contract. Assumes nothing.
use Prim.Native.Nat.{◌+◌, ◌*◌, ◌≤◌}
use lib.ListN.{get_or}
use Rattle.growing.proofs.inserting.number_of_leaf.Given as goal

abbrev pub invariant-loop-j : goal.invariant-loop-j
invariant-loop-j l = 64 * l.j ≤ l.k + get_or l.summary l.j 0
