use mathlib.Core.Path.{sym}
use native.Mathlib.Omega.{arith}
use Rattle.lists.proofs.Writes.{wrote_same, write_rest}
use Rattle.trees.proofs.WriteSteps.{nodes_end, spine_length, spine_room, spine_wrote, last_length, rest_room}
use Rattle.trees.proofs.writer.+write_inner_write_spine.Goals as goal

pub write_inner-write_spine-requires : goal.write_inner-write_spine-requires
write_inner-write_spine-requires t c =
    let w = c.write_subtree-behind.ensures in
    (omega (arith, c.decreases, w.writing.ends, w.on), rest_room w c.requires)

pub write_inner-returns : goal.write_inner-returns
write_inner-returns t c = write_rest c.write_subtree-behind.ensures.writing c.write_spine.ensures

pub write_spine-bounds-shape-from : goal.write_spine-bounds-shape-from
write_spine-bounds-shape-from t c =
    omega (arith, spine_length c.requires c.if-from-e.true, c.requires.room)

pub write_spine-write_inner-requires : goal.write_spine-write_inner-requires
write_spine-write_inner-requires t c = (
  omega (arith, spine_length c.requires c.if-from-e.true, c.decreases),
  spine_room c.requires c.if-from-e.true,
)

pub write_spine-returns-then-from-e : goal.write_spine-returns-then-from-e
write_spine-returns-then-from-e t c = spine_wrote c.requires c.if-from-e.true c.write_inner.ensures

pub write_spine-put_leaf-requires : goal.write_spine-put_leaf-requires
write_spine-put_leaf-requires t c =
    omega (arith, last_length c.requires c.if-from-e.false, c.requires.room)

pub write_spine-returns : goal.write_spine-returns
write_spine-returns t c =
    wrote_same (sym (nodes_end c.args.e.now c.args.from.leaf.0 c.if-from-e.false)) c.put_leaf.ensures
