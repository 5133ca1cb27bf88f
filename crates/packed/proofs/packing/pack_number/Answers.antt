use native.Mathlib.Omega.{arith}
use Rattle.packed.proofs.PackSteps.{part_start, part_more, part_fits, part_done}
use Rattle.packed.proofs.packing.pack_number.Goals as goal

pub loop-k-init : goal.loop-k-init
loop-k-init c = part_start 64 _ _ _ c.nodes_from-k.ensures

pub overflow_mul-x : goal.overflow_mul-x
overflow_mul-x c =
    let few = c.requires in
    record { fits = omega (arith, part_fits (part_more c.loop-k.invariant (omega arith)) few.nodes) }

pub overflow_add-x : goal.overflow_add-x
overflow_add-x c =
    let few = c.requires in
    record {
      fits = omega (arith, c.from.ensures, part_fits (part_more c.loop-k.invariant (omega arith)) few.nodes);
    }

pub loop-k-preserved : goal.loop-k-preserved
loop-k-preserved c = rw c.from.ensures (part_more c.loop-k.invariant (omega arith))

pub returns : goal.returns
returns c = part_done c.loop-k.invariant (omega arith)
