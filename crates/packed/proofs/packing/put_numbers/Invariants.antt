-- `put_numbers` meets its contract. Assumes nothing.
use Rattle.packed.proofs.PackSteps.{Filling}
use Rattle.packed.proofs.packing.put_numbers.Given as goal

abbrev pub invariant-loop-j : goal.invariant-loop-j
invariant-loop-j l = Filling l.shape l.initial.numbers l.initial.summary l.numbers l.summary l.count l.j
