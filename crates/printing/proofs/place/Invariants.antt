-- `place` meets its contract: after i turns the first i bytes are written. Assumes nothing.
use Prim.Native.Nat.{◌+◌}
use Rattle.printing.proofs.Loops.{Passing}
use Rattle.printing.proofs.place.Given as goal

abbrev pub invariant-loop-i : goal.invariant-loop-i
invariant-loop-i l = Passing (λ s. s) l.bytes l.out (l.at + l.i) l.i l.initial.out l.at
