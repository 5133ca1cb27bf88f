-- `writing::put_items` meets its contract: a line's item in a turn. Assumes nothing.
use native.Mathlib.Omega.{arith}
use Rattle.lines.proofs.LineEnds.{line_end_from, line_end_within}
use Rattle.wordlists.proofs.Putting.{putting_starts, putting_room, putting_within, putting_more, putting_ends}
use Rattle.wordlists.proofs.writing.put_items.Goals as goal

pub loop-at-init : goal.loop-at-init
loop-at-init c = putting_starts c.requires

pub slice_bounds-put_item-count : goal.slice_bounds-put_item-count
slice_bounds-put_item-count c = omega (arith, c.line_end-end.ensures, line_end_from c.args.list.now c.loop-at.at)

pub slice_bounds-put_item-end : goal.slice_bounds-put_item-end
slice_bounds-put_item-end c =
    omega (
      arith,
      c.line_end-end.ensures,
      line_end_within c.args.list.now c.loop-at.at (omega (arith, c.loop-at-test.true)),
    )

pub put_item-written-requires : goal.put_item-written-requires
put_item-written-requires c = putting_room c.loop-at.invariant c.loop-at-test.true _ c.line_end-end.ensures

pub overflow_add-written : goal.overflow_add-written
overflow_add-written c =
    omega (
      arith,
      putting_within c.loop-at.invariant c.loop-at-test.true _ c.line_end-end.ensures c.put_item-written.ensures,
    )

pub overflow_add-at : goal.overflow_add-at
overflow_add-at c =
    omega (
      arith,
      c.line_end-end.ensures,
      line_end_within c.args.list.now c.loop-at.at (omega (arith, c.loop-at-test.true)),
    )

pub loop-at-smaller : goal.loop-at-smaller
loop-at-smaller c =
    omega (arith, c.line_end-end.ensures, line_end_from c.args.list.now c.loop-at.at, c.loop-at-test.true)

pub loop-at-preserved : goal.loop-at-preserved
loop-at-preserved c =
    putting_more c.loop-at.invariant c.loop-at-test.true _ c.line_end-end.ensures c.put_item-written.auto.out
    c.put_item-written.ensures

pub shape_of-b_table : goal.shape_of-b_table
shape_of-b_table c = c.loop-at.invariant.b_same

pub shape_of-a_table : goal.shape_of-a_table
shape_of-a_table c = c.loop-at.invariant.a_same

pub shape_of-out : goal.shape_of-out
shape_of-out c = c.loop-at.invariant.out_same

pub returns : goal.returns
returns c = putting_ends c.loop-at.invariant c.loop-at-test.false
