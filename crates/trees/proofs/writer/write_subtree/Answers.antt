use mathlib.Core.Path.{◌≡◌, ap}
use Prim.Native.Nat.{ℕ}
use native.Mathlib.Omega.{arith}
use lib.ListN.{drop}
use Rattle.lists.proofs.Writes.{writing_same, writing_length}
use Rattle.trees.specs.inside.Writing.{nodes_from}
use Rattle.trees.proofs.WriteSteps.{own_length, pending_start, pending_bound}
use Rattle.trees.proofs.WriteSteps.{pending_more, leaf_room}
use Rattle.trees.proofs.writer.write_subtree.Goals as goal

pub loop-pending-init : goal.loop-pending-init
loop-pending-init c = pending_start c.requires

pub put_leaf-requires : goal.put_leaf-requires
put_leaf-requires c =
    leaf_room c.loop-pending.invariant c.requires _ c.loop-pending-test.true
    c.leaf_exponent-n.ensures

pub overflow_add-place : goal.overflow_add-place
overflow_add-place c =
    let inv = c.loop-pending.invariant in
    omega (arith, inv.early, inv.writing.ends, c.requires.small)

pub overflow_sub-pending : goal.overflow_sub-pending
overflow_sub-pending c = omega arith

pub overflow_add-pending : goal.overflow_add-pending
overflow_add-pending c =
    let inv = c.loop-pending.invariant in
    omega (
      arith,
      pending_bound inv c.requires _ c.loop-pending-test.true c.leaf_exponent-n.ensures,
      c.well_formed,
      writing_length inv.writing,
    )

pub loop-pending-smaller : goal.loop-pending-smaller
loop-pending-smaller c =
    let inv = c.loop-pending.invariant in
    omega (
      arith,
      c.put_leaf.ensures.ends,
      own_length c.leaf_exponent-n.result,
      leaf_room inv c.requires _ c.loop-pending-test.true c.leaf_exponent-n.ensures,
      writing_length inv.writing,
    )

pub loop-pending-preserved : goal.loop-pending-preserved
loop-pending-preserved c =
    pending_more c.loop-pending.invariant c.requires _ c.loop-pending-test.true
    c.leaf_exponent-n.ensures c.put_leaf.ensures

pub shape_of-shape : goal.shape_of-shape
shape_of-shape c = writing_length c.loop-pending.invariant.writing

pub returns : goal.returns
returns c =
    let none : c.loop-pending.pending ≡ 0 = omega arith in
    let e = c.args.e.now in
    record {
      writing =
          writing_same (ap (λ (o : ℕ). nodes_from (drop c.loop-pending.place.leaf.0 e) o) none)
          c.loop-pending.invariant.writing;
      on = c.loop-pending.invariant.past none;
      early = c.loop-pending.invariant.early;
    }
