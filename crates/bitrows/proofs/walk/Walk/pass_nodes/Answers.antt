use native.Mathlib.Omega.{arith}
use Rattle.bitrows.proofs.Passing.{amid_more, node_leaves}
use Rattle.bitrows.proofs.walk.Walk.pass_nodes.Goals as goal

pub loop-at-preserved : goal.loop-at-preserved
loop-at-preserved c =
    let inv = c.loop-at.invariant in
    let node = node_leaves c.loop-at.rest c.loop-at.pending (omega arith) in (
      amid_more 1 _ inv.0 node.1.leaves node.1.few (omega arith),
      omega (arith, inv.0.reached),
      inv.2,
    )
