-- `find` meets its contract: before each turn what is found from the place on is what is found. Assumes nothing.
use Prim.Native.Nat.{suc, ◌-◌}
use lib.ListN.{length}
use Rattle.registers.proofs.Searching.{Searching}
use Rattle.registers.proofs.find.Given as goal

abbrev pub invariant-loop-h : goal.invariant-loop-h
invariant-loop-h l = Searching l.register l.«record» l.at

abbrev pub decreases-loop-h : goal.decreases-loop-h
decreases-loop-h l = suc (length l.register) - l.at
