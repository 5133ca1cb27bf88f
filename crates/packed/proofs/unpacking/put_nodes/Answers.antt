use native.Mathlib.Omega.{arith}
use Rattle.packed.proofs.UnpackSteps.{unpacking_start, unpacking_more, unpacking_done}
use Rattle.packed.proofs.unpacking.put_nodes.Goals as goal

pub loop-i-init : goal.loop-i-init
loop-i-init c = (unpacking_start _ _, omega arith)

pub node_at-requires : goal.node_at-requires
node_at-requires c = omega (arith, c.requires.within.there)

pub bounds-shape-i : goal.bounds-shape-i
bounds-shape-i c = omega (arith, c.loop-i.invariant.0.same_length)

pub loop-i-preserved : goal.loop-i-preserved
loop-i-preserved c =
    let pre = c.requires in (
      unpacking_more _ c.loop-i.invariant.0 (omega (arith, pre.within.there)) c.node_at.ensures,
      omega arith,
    )

pub shape_of-shape : goal.shape_of-shape
shape_of-shape c = c.loop-i.invariant.0.same_length

pub returns : goal.returns
returns c = unpacking_done {n = c.args.n} c.loop-i.invariant.0 (omega arith)
