-- `put_record` meets its contract: the numbers, the digits of the record, and byte 0A hex are one row. Assumes nothing.
use native.Mathlib.Omega.{arith}
use Rattle.lists.proofs.Writes.{write_then, wrote_same}
use Rattle.printing.proofs.Fitting.{put_behind}
use Rattle.appending.proofs.Hex.{hex_length}
use Rattle.rows.proofs.Fields.{numbers_end, record_row_lem}
use Rattle.rows.proofs.row.put_record.Goals as goal

pub returns : goal.returns
returns c =
    let x = c.args in
    let numbers = c.put_numbers-behind_numbers.ensures in
    let end = numbers_end x.k x.l x.m x.n (omega arith) (omega arith) (omega arith) (omega arith) numbers in
    let digits = c.append_hex-behind_record.ensures.fits
    (omega (arith, c.requires, c.put_numbers-behind_numbers.auto, end, hex_length x.«record».now)) in
    let last = put_behind (omega (arith, c.requires, c.put_numbers-behind_numbers.auto, end, hex_length x.«record».now))
    digits c.put.ensures in
    wrote_same (record_row_lem x.k x.l x.m x.n x.«record».now)
    (write_then numbers (write_then digits last))
