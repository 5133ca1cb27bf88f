-- Before each turn the runs from x_k on are left. Assumes nothing.
use Rattle.group.specs.Limits.{limit}
use Rattle.spelling.specs.inside.Steps.{read_exponent, rising_runs}
use Rattle.spelling.proofs.Rest.{rising_from}
use Rattle.spelling.proofs.WrittenRuns.{Puts}
use Rattle.spelling.proofs.writing.write_rising.Given as goal

abbrev pub invariant-loop-k : goal.invariant-loop-k
invariant-loop-k l =
    Puts (rising_from (read_exponent l.b) limit l.k) l.state l.word (rising_runs l.b) l.initial.state l.initial.word
