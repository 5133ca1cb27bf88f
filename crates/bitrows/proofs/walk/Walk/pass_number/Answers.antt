-- `pass_number` meets its contract. Assumes nothing.
use Rattle.bitrows.proofs.Passing.{number_reach}
use Rattle.bitrows.proofs.walk.Walk.pass_number.Goals as goal

pub returns-clause-reach : goal.returns-clause-reach
returns-clause-reach c = number_reach c.args.x c.args.self c.ranges.x.fits c.requires.at_value c.requires.lt_pending
