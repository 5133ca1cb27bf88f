use native.Mathlib.Omega.{arith}
use Rattle.clause.proofs.Breaks.{seen_more}
use Rattle.clause.proofs.search.block_breaks.Goals as goal

pub loop-i-preserved : goal.loop-i-preserved
loop-i-preserved c = seen_more c.breaks-found.result c.loop-i.invariant (omega arith) c.breaks-found.ensures
