-- `put_entry` meets its contract: tag, length, number, holder and record are one run of bytes. Assumes nothing.
use mathlib.Core.Path.{◌≡◌}
use Prim.Native.Nat.{◌-◌}
use native.Mathlib.Omega.{arith}
use lib.ListN.{length, take, drop, length-set, length-take, length-drop}
use Rattle.records.proofs.SmallerRecords.{smaller_is_ok}
use Rattle.registers.specs.Format.{entry_tag}
use Rattle.updates.proofs.Putting.{entry_put}
use Rattle.updates.proofs.writing.put_entry.Goals as goal

pub put_two-a-requires : goal.put_two-a-requires
put_two-a-requires c = simp length-set (omega (arith, c.requires))

pub put_four-b-requires : goal.put_four-b-requires
put_four-b-requires c =
    omega (
      arith,
      c.requires,
      c.put_two-a.ensures,
      c.put_two-a.auto,
      length-set c.args.out.now 0 entry_tag,
    )

pub put_two-requires : goal.put_two-requires
put_two-requires c =
    omega (
      arith,
      c.requires,
      c.put_two-a.ensures,
      c.put_two-a.auto,
      c.put_four-b.ensures,
      c.put_four-b.auto,
      length-set c.args.out.now 0 entry_tag,
    )

pub slice_bounds-put_smaller-count : goal.slice_bounds-put_smaller-count
slice_bounds-put_smaller-count c =
    let kept : length c.put_two.new.out ≡ length c.args.out.now =
    omega (
      arith,
      c.put_two.auto,
      c.put_four-b.auto,
      c.put_two-a.auto,
      length-set c.args.out.now 0 entry_tag,
    ) in
    omega (arith, c.requires, kept)

pub slice_bounds-put_smaller-start : goal.slice_bounds-put_smaller-start
slice_bounds-put_smaller-start c =
    let kept : length c.put_two.new.out ≡ length c.args.out.now =
    omega (
      arith,
      c.put_two.auto,
      c.put_four-b.auto,
      c.put_two-a.auto,
      length-set c.args.out.now 0 entry_tag,
    ) in
    omega (arith, c.requires, kept)

pub returns : goal.returns
returns c =
    entry_put c.args.number c.args.holder c.args.«record».now c.args.out.now
    c.put_two.new.out c.put_smaller.new.out c.put_smaller.result c.unwrap.ensures c.requires
    c.put_two-a.ensures c.put_four-b.ensures c.put_two.ensures c.put_smaller.ensures

pub unwrap-requires : goal.unwrap-requires
unwrap-requires c =
    let kept : length c.put_two.new.out ≡ length c.args.out.now =
    omega (
      arith,
      c.put_two.auto,
      c.put_four-b.auto,
      c.put_two-a.auto,
      length-set c.args.out.now 0 entry_tag,
    ) in
    let v = c.put_two.new.out in
    smaller_is_ok c.args.«record».now
    (take (length v - 9) (drop 9 v)) c.put_smaller.result c.put_smaller.ensures c.requires.framed
    (simp (length-take, length-drop) (omega (arith, c.requires.room, kept)))
