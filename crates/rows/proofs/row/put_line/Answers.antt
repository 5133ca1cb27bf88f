-- `put_line` meets its contract: a refusal, or the tables and the record of the word. Assumes nothing.
use Prim.Native.Nat.{◌≤◌}
use native.Mathlib.Omega.{arith}
use lib.ListN.{length, length-take}
use borrow.Author.Rules.{rules}
use Rattle.lists.proofs.Writes.{wrote_same}
use Rattle.refusals.specs.Memory.{memory}
use Rattle.records.specs.Format.{buffer_size}
use Rattle.words.specs.inside.Lending.{LineRoom}
use Rattle.rows.proofs.LineReads.{full_room}
use Rattle.rows.proofs.LineReceipts.{receipt_refused, letters_within, record_within, row_measured, receipt_row}
use Rattle.rows.proofs.row.put_line.Goals as goal

pub shared_ref_as_front-put_tables-in-Ok-2 : goal.shared_ref_as_front-put_tables-in-Ok-2
shared_ref_as_front-put_tables-in-Ok-2 c =
    let r = c.args.room.now in
    let room : LineRoom c.args.line.now (memory r.b r.a r.«record») =
    full_room (search rules) (search rules) (search rules) in
    omega (
      arith,
      record_within room c.record_in-recorded.ensures c.in-Ok.n c.in-Ok.is,
      letters_within room c.record_in-recorded.ensures c.in-Ok.n c.in-Ok.is,
    )

pub put_tables-requires : goal.put_tables-requires
put_tables-requires c =
    let r = c.args.room.now in
    let room : LineRoom c.args.line.now (memory r.b r.a r.«record») =
    full_room (search rules) (search rules) (search rules) in
    let short : c.in-Ok.n ≤ buffer_size (length c.args.line.now) =
    record_within room c.record_in-recorded.ensures c.in-Ok.n c.in-Ok.is in
    record {
      measured = row_measured room c.record_in-recorded.ensures c.in-Ok.n c.in-Ok.is;
      room = omega (arith, length-take c.in-Ok.n c.record_in-recorded.new.«record», short, c.requires);
    }

pub returns-in-Err : goal.returns-in-Err
returns-in-Err c =
    let r = c.args.room.now in
    let room : LineRoom c.args.line.now (memory r.b r.a r.«record») =
    full_room (search rules) (search rules) (search rules) in
    wrote_same (receipt_refused room c.record_in-recorded.ensures c.in-Err.r c.args.number c.in-Err.is)
    c.put_refusal.ensures

pub returns-in-Ok : goal.returns-in-Ok
returns-in-Ok c =
    let r = c.args.room.now in
    let room : LineRoom c.args.line.now (memory r.b r.a r.«record») =
    full_room (search rules) (search rules) (search rules) in
    wrote_same (receipt_row room c.record_in-recorded.ensures c.in-Ok.n c.in-Ok.is c.args.number)
    c.put_tables.ensures
