use Rattle.std.proofs.Common.{arith}
use Rattle.hexadecimal.proofs.Turns.{pass_more, pass_done}
use Rattle.hexadecimal.proofs.read.Goals as goal

pub loop-c-preserved : goal.loop-c-preserved
loop-c-preserved c = pass_more c.loop-c.invariant (omega arith) c.step.ensures (omega (arith, c.step.auto))

pub returns : goal.returns
returns c = pass_done c.loop-c.invariant (omega arith)
