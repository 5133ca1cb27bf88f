-- `pack_number` meets its contract. Assumes nothing.
use Rattle.packed.proofs.PackSteps.{PackingPart}
use Rattle.packed.proofs.packing.pack_number.Given as goal

abbrev pub invariant-loop-k : goal.invariant-loop-k
invariant-loop-k l = PackingPart 64 l.shape l.from l.k l.x
