-- `put_numbers` meets its contract: four numbers, one behind another. Assumes nothing.
use native.Mathlib.Omega.{arith}
use Rattle.lists.proofs.Writes.{write_then}
use Rattle.rows.proofs.Fields.{number_end}
use Rattle.rows.proofs.row.put_numbers.Goals as goal

pub put_number-behind_l-requires : goal.put_number-behind_l-requires
put_number-behind_l-requires c =
    omega (
      arith,
      c.requires,
      c.put_number-behind_k.auto,
      number_end c.args.k 32 (omega arith) c.put_number-behind_k.ensures,
    )

pub put_number-behind_m-requires : goal.put_number-behind_m-requires
put_number-behind_m-requires c =
    omega (
      arith,
      c.requires,
      c.put_number-behind_k.auto,
      c.put_number-behind_l.auto,
      number_end c.args.k 32 (omega arith) c.put_number-behind_k.ensures,
      number_end c.args.l 32 (omega arith) c.put_number-behind_l.ensures,
    )

pub put_number-requires : goal.put_number-requires
put_number-requires c =
    omega (
      arith,
      c.requires,
      c.put_number-behind_k.auto,
      c.put_number-behind_l.auto,
      c.put_number-behind_m.auto,
      number_end c.args.k 32 (omega arith) c.put_number-behind_k.ensures,
      number_end c.args.l 32 (omega arith) c.put_number-behind_l.ensures,
      number_end c.args.m 32 (omega arith) c.put_number-behind_m.ensures,
    )

pub returns : goal.returns
returns c =
    write_then c.put_number-behind_k.ensures
    (write_then c.put_number-behind_l.ensures (write_then c.put_number-behind_m.ensures c.put_number.ensures))
