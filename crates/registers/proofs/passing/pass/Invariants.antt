-- `pass` meets its contract: before each turn the entries read so far follow the rules. Assumes nothing.
use Prim.Native.Nat.{◌-◌, suc}
use lib.ListN.{length}
use Rattle.registers.proofs.Turns.{Passing}
use Rattle.registers.proofs.passing.pass.Given as goal

abbrev pub invariant-loop-h : goal.invariant-loop-h
invariant-loop-h l = Passing l.s l.last l.at l.seen.low l.seen.table

abbrev pub decreases-loop-h : goal.decreases-loop-h
decreases-loop-h l = suc (length l.s) - l.at
