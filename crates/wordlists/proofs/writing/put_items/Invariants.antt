-- `writing::put_items` meets its contract: what is left of the lines gives the whole. Assumes nothing.
use Prim.Native.Nat.{◌-◌}
use lib.ListN.{length}
use Rattle.refusals.specs.Memory.{memory}
use Rattle.wordlists.proofs.Putting.{Putting}
use Rattle.wordlists.proofs.writing.put_items.Given as goal

abbrev pub invariant-loop-at : goal.invariant-loop-at
invariant-loop-at l =
    Putting l.list (memory l.initial.b_table l.initial.a_table l.initial.out) (memory l.b_table l.a_table l.out) l.at
    l.written

abbrev pub decreases-loop-at : goal.decreases-loop-at
decreases-loop-at l = length l.list - l.at
