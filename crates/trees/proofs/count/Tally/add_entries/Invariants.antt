-- `Tally::add_entries` meets its contract: the entries from i on are counted. Assumes nothing.
use Prim.Native.Nat.{◌≤◌}
use Rattle.trees.specs.inside.Counting.{Counted}
use Rattle.trees.proofs.count.Tally.add_entries.Given as goal

abbrev pub invariant-loop-i : goal.invariant-loop-i
invariant-loop-i l = record { above : l.from ≤ l.i; counted : Counted l.e l.i l.sum l.carets }
