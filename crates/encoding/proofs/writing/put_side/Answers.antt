-- `put_side` meets its contract: tag, length and entries are one run of bytes. Assumes nothing.
use mathlib.Core.Path.{◌≡◌, refl, ap}
use mathlib.Core.List.{[], ◌∷◌}
use Prim.Native.Nat.{◌*◌}
use native.Mathlib.Omega.{arith}
use lib.ListN.{length, length-set}
use Rattle.lists.proofs.Writes.{write_then, wrote_same}
use Rattle.group.proofs.Limits.{limit_fills}
use Rattle.records.specs.Format.{powers}
use Rattle.fields.specs.Fields.{two_bytes}
use Rattle.encoding.specs.inside.Bodies.{encode_body}
use Rattle.records.proofs.Lengths.{entries-length, powers-most}
use Rattle.encoding.proofs.writing.put_side.Goals as goal

pub overflow_mul-count : goal.overflow_mul-count
overflow_mul-count c = omega (arith, powers-most 0 c.args.table.now)

pub put_two-at-requires : goal.put_two-at-requires
put_two-at-requires c = simp length-set (omega (arith, c.requires, powers-most 0 c.args.table.now, limit_fills))

pub put_entries-requires : goal.put_entries-requires
put_entries-requires c =
    omega (
      arith,
      c.requires,
      c.put_two-at.ensures,
      c.put_two-at.auto,
      length-set c.args.out.now 0 c.args.tag,
    )

pub returns : goal.returns
returns c =
    let long : 4 * c.args.count ≡ length (encode_body c.args.table.now) =
    omega (arith, entries-length (powers 0 c.args.table.now)) in
    write_then
    {a = c.args.tag ∷ []}
    (record { ends = refl; holds = refl })
    (write_then (wrote_same (ap two_bytes long) c.put_two-at.ensures) c.put_entries.ensures)
