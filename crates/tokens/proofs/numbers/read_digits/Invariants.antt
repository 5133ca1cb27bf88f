-- The digits up to the place are a run. Assumes nothing.
use Rattle.tokens.specs.inside.Spelling.{DigitsRun}
use Rattle.tokens.proofs.numbers.read_digits.Given as goal

abbrev pub invariant-loop-end : goal.invariant-loop-end
invariant-loop-end l = DigitsRun l.text l.at l.value l.end
