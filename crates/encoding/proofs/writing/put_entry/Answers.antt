-- `put_entry` meets its contract: nothing for exponent 0, else the index and then the exponent. Assumes nothing.
use mathlib.Core.Path.{ap}
use native.Mathlib.Omega.{arith}
use lib.ListN.{length}
use Rattle.lists.proofs.Writes.{write_then, wrote_same, wrote_none}
use Rattle.records.proofs.Powers.{entry_bytes}
use Rattle.encoding.proofs.writing.put_entry.Goals as goal

pub returns-then-exponent-eq0 : goal.returns-then-exponent-eq0
returns-then-exponent-eq0 c = rw c.if-exponent-eq0.true (wrote_none _ _)

pub put_two-next-requires : goal.put_two-next-requires
put_two-next-requires c = omega (arith, ap length (entry_bytes c.args.index c.args.exponent (omega arith)), c.requires)

pub put_two-requires : goal.put_two-requires
put_two-requires c =
    omega (
      arith,
      ap length (entry_bytes c.args.index c.args.exponent (omega arith)),
      c.put_two-next.ensures,
      c.put_two-next.auto,
      c.requires,
      c.ranges,
    )

pub returns : goal.returns
returns c =
    wrote_same
    (entry_bytes _ _ (omega (arith, c.if-exponent-eq0.false)))
    (write_then c.put_two-next.ensures (rw c.from.ensures at c.put_two.ensures))
