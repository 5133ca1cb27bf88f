-- Before each turn the runs from x_k down are left. Assumes nothing.
use Rattle.spelling.specs.Runs.{falling}
use Rattle.spelling.specs.inside.Steps.{read_exponent, falling_runs}
use Rattle.spelling.proofs.WrittenRuns.{Puts}
use Rattle.spelling.proofs.writing.write_falling.Given as goal

abbrev pub invariant-loop-k : goal.invariant-loop-k
invariant-loop-k l =
    Puts (falling (read_exponent l.a) l.k) l.state l.word (falling_runs l.a) l.initial.state l.initial.word
