-- Before each turn the powers from index k on are left. Assumes nothing.
use lib.ListN.{drop}
use Rattle.lists.specs.inside.Writes.{Writing}
use Rattle.tokens.specs.Texts.{further_text}
use Rattle.notation.specs.inside.Tables.{rising_in}
use Rattle.notation.proofs.writing.write_rising.Given as goal

abbrev pub invariant-loop-k : goal.invariant-loop-k
invariant-loop-k l =
    Writing (further_text (rising_in l.k (drop l.k l.b))) l.out l.at (further_text (rising_in 0 l.b)) l.initial.out 0
