-- `read_text` meets its contract: the tokens in front of the place are those of the powers that are kept, and what is
-- left of the text, and one place behind it, is the measure. Assumes nothing.
use Prim.Native.Nat.{◌+◌, ◌-◌}
use lib.ListN.{length}
use Rattle.tokens.proofs.TextSteps.{Reading}
use Rattle.tokens.proofs.read_text.Given as goal

abbrev pub invariant-loop-at : goal.invariant-loop-at
invariant-loop-at l = Reading l.text l.at l.powers l.indices l.exponents l.sides

abbrev pub decreases-loop-at : goal.decreases-loop-at
decreases-loop-at l = length l.text + 1 - l.at
