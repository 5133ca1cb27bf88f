-- `powers::pile_powers` meets its contract: the loop of `RunningPowers`, from the last power to the first.
-- Assumes nothing.
use Rattle.forest.proofs.RunPowers.{RunningPowers}
use Rattle.forest.proofs.powers.pile_powers.Given as goal

abbrev pub invariant-loop-i : goal.invariant-loop-i
invariant-loop-i l =
    RunningPowers l.indices l.exponents l.sides l.lefts l.rights l.before l.stack l.used l.front l.height l.i
