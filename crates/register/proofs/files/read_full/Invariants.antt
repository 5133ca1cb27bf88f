-- The room that is left gets less.
use Rattle.std.proofs.Common.{◌-◌, length}
use Rattle.register.proofs.files.read_full.Given as goal

abbrev pub decreases-loop-done : goal.decreases-loop-done
decreases-loop-done l = length l.room - l.done
