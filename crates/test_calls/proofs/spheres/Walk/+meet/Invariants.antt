-- Each call has one letter more.
use Rattle.std.proofs.Common.{◌-◌}
use Rattle.test_calls.proofs.spheres.Walk.+meet.Given as goal

abbrev pub decreases-meet : goal.decreases-meet
decreases-meet l = 11 - l.n
