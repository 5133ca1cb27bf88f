-- `sum_weights` meets its contract: the weights of the carets from k on are summed. Assumes nothing.
use Rattle.lengths.proofs.SumSteps.{Summed}
use Rattle.lengths.proofs.sums.sum_weights.Given as goal

abbrev pub invariant-loop-k : goal.invariant-loop-k
invariant-loop-k l = Summed l.minus l.plus l.n l.k l.sum l.m.next l.m.later l.p.next l.p.later
