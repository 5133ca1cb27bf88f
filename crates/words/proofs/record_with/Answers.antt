-- `record_with` meets its contract: a buffer that is too short, what the engine refuses, and else the record of the
-- front of its tables. Assumes nothing.
use Rattle.std.proofs.Common.{rules, ◌≤◌, length, sym, ◌∙◌}
use native.Mathlib.Omega.{arith}
use lib.Seq.{length-take-le}
use borrow.Author.Tests.{ltb-false}
use Rattle.records.specs.Format.{buffer_size}
use Rattle.words.proofs.Recorded.{engine_unfills, levels_within, engine_writes}
use Rattle.words.proofs.record_with.Goals as goal

pub returns-in_err-levels : goal.returns-in_err-levels
returns-in_err-levels c =
    let roomy : buffer_size (length c.args.word.now) ≤ length c.args.«record».now =
    ltb-false _ _ (sym c.is_short.ensures ∙ c.if-is_short.false) in
    engine_unfills _ roomy c.fill_tables.ensures _ c.in_err-levels.was (search rules)

pub slice_bounds-write_record-end : goal.slice_bounds-write_record-end
slice_bounds-write_record-end c =
    let roomy : buffer_size (length c.args.word.now) ≤ length c.args.«record».now =
    ltb-false _ _ (sym c.is_short.ensures ∙ c.if-is_short.false) in
    let call = c.fill_tables in
    omega (arith, (levels_within c.args.«record».now roomy call.ensures _ c.in_ok-levels.was).0, call.auto.b_table)

pub slice_bounds-write_record-end-2 : goal.slice_bounds-write_record-end-2
slice_bounds-write_record-end-2 c = sym (length-take-le _ _ (slice_bounds-write_record-end c))

pub slice_bounds-write_record-end-3 : goal.slice_bounds-write_record-end-3
slice_bounds-write_record-end-3 c =
    let roomy : buffer_size (length c.args.word.now) ≤ length c.args.«record».now =
    ltb-false _ _ (sym c.is_short.ensures ∙ c.if-is_short.false) in
    let call = c.fill_tables in
    omega (arith, (levels_within c.args.«record».now roomy call.ensures _ c.in_ok-levels.was).1, call.auto.a_table)

pub slice_bounds-write_record-end-4 : goal.slice_bounds-write_record-end-4
slice_bounds-write_record-end-4 c = sym (length-take-le _ _ (slice_bounds-write_record-end-3 c))

pub returns : goal.returns
returns c =
    let roomy : buffer_size (length c.args.word.now) ≤ length c.args.«record».now =
    ltb-false _ _ (sym c.is_short.ensures ∙ c.if-is_short.false) in
    engine_writes _ roomy c.fill_tables.ensures _ c.in_ok-levels.was c.write_record.ensures
