-- `is_summed` meets its contract. Assumes nothing.
use Rattle.packed.proofs.Sums.{Summing}
use Rattle.packed.proofs.checking.Packed.is_summed.Given as goal

abbrev pub invariant-loop-j : goal.invariant-loop-j
invariant-loop-j l = Summing l.self.numbers.now l.self.summary.now l.n l.count l.j
