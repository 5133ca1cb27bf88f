-- Before each turn the powers of the indices below k are left. Assumes nothing.
use lib.ListN.{take}
use Rattle.lists.specs.inside.Writes.{Writing}
use Rattle.tokens.specs.Texts.{further_text}
use Rattle.notation.specs.inside.Tables.{falling_in}
use Rattle.notation.proofs.writing.write_falling.Given as goal

abbrev pub invariant-loop-k : goal.invariant-loop-k
invariant-loop-k l =
    Writing (further_text (falling_in 0 (take l.k l.a))) l.out l.at
    (further_text (falling_in 0 l.a)) l.initial.out l.start
