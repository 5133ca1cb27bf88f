-- The powers of the exponents so far are counted. Assumes nothing.
use Rattle.encoding.proofs.WriteLoops.{Counting}
use Rattle.encoding.proofs.writing.count_powers.Given as goal

abbrev pub invariant-loop-exponent : goal.invariant-loop-exponent
invariant-loop-exponent l = Counting l.table l.count l.exponent-index
