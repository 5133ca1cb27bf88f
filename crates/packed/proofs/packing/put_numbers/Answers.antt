use native.Mathlib.Omega.{arith}
use Rattle.packed.proofs.PackSteps.{filling_start, filling_small, filling_more, filling_done}
use Rattle.packed.proofs.packing.put_numbers.Goals as goal

pub numbers_of-n-requires : goal.numbers_of-n-requires
numbers_of-n-requires c = omega (arith, c.requires.few_nodes.small)

pub loop-j-init : goal.loop-j-init
loop-j-init c = filling_start _ _ _

pub overflow_mul-j : goal.overflow_mul-j
overflow_mul-j c =
    let pre = c.requires in
    record { fits = omega (arith, c.numbers_of-n.ensures, pre.few_nodes.small) }

pub pack_number-x-requires : goal.pack_number-x-requires
pack_number-x-requires c = c.requires.few_nodes

pub bounds-numbers-j : goal.bounds-numbers-j
bounds-numbers-j c =
    let pre = c.requires in
    omega (arith, c.numbers_of-n.ensures, pre.room.in_numbers, c.loop-j.invariant.numbers_length)

pub bounds-summary-j : goal.bounds-summary-j
bounds-summary-j c =
    let pre = c.requires in
    omega (arith, c.numbers_of-n.ensures, pre.room.in_summary, c.loop-j.invariant.summary_length)

pub overflow_cast-count : goal.overflow_cast-count
overflow_cast-count c =
    let pre = c.requires in
    record { fits = omega (arith, filling_small pre.few_nodes c.loop-j.invariant _ c.pack_number-x.ensures) }

pub overflow_add-count : goal.overflow_add-count
overflow_add-count c =
    let pre = c.requires in
    record { fits = omega (arith, filling_small pre.few_nodes c.loop-j.invariant _ c.pack_number-x.ensures) }

pub loop-j-preserved : goal.loop-j-preserved
loop-j-preserved c =
    let pre = c.requires in
    filling_more pre.few_nodes c.loop-j.invariant _ c.pack_number-x.ensures
    (omega (arith, c.numbers_of-n.ensures)) pre.room

pub shape_of-numbers : goal.shape_of-numbers
shape_of-numbers c = c.loop-j.invariant.numbers_length

pub shape_of-summary : goal.shape_of-summary
shape_of-summary c = c.loop-j.invariant.summary_length

pub returns : goal.returns
returns c =
    let r = filling_done c.loop-j.invariant (omega (arith, c.numbers_of-n.ensures, c.loop-j.invariant.within)) in
    record { numbers_after = r.0; summary_after = r.1 }
