-- Before each turn the runs from x_k on are left. Assumes nothing.
use Rattle.group.specs.Limits.{limit}
use Rattle.spelling.specs.inside.Steps.{read_exponent, rising_runs}
use Rattle.spelling.proofs.Rest.{rising_from, Leads}
use Rattle.spelling.proofs.counting.count_rising.Given as goal

abbrev pub invariant-loop-k : goal.invariant-loop-k
invariant-loop-k l = Leads (rising_from (read_exponent l.b) limit l.k) l.state (rising_runs l.b) l.initial.state
