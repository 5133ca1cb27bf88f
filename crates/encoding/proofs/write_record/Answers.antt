-- `write_record` meets its contract: each answer has its case. Assumes nothing.
use native.Mathlib.Omega.{arith}
use Rattle.records.specs.Format.{powers}
use Rattle.records.proofs.Lengths.{entries-length, record_length}
use Rattle.encoding.proofs.WriteAnswers.{unfit_b, unfit_a, short_buffer, all_written}
use Rattle.encoding.proofs.write_record.Goals.{then-b-via-then-b, then-b-via-else-b+then-a}
use Rattle.encoding.proofs.write_record.Goals as goal

pub returns-then-b : goal.returns-then-b
returns-then-b c =
    elim c.then-b.branch [
      | then-b-via-then-b w ↦ unfit_b (omega (arith, w.if-b.true))
      | then-b-via-else-b+then-a w ↦ unfit_a (omega (arith, w.if-b.false)) (omega (arith, w.if-a.true))
    ]

pub returns-then-buffer-b_powers : goal.returns-then-buffer-b_powers
returns-then-buffer-b_powers c =
    let args = c.args in
    short_buffer (omega arith) (omega arith) (omega (arith, record_length args.b.now args.a.now))

pub put_record-requires : goal.put_record-requires
put_record-requires c =
    let args = c.args in
    omega (arith, entries-length (powers 0 args.b.now), entries-length (powers 0 args.a.now))

pub returns : goal.returns
returns c =
    let args = c.args in
    all_written
    (omega (arith, c.if-b.false))
    (omega (arith, c.if-a.false))
    (omega (
      arith,
      record_length args.b.now args.a.now,
      c.if-buffer-b_powers.false,
      c.count_powers-a_powers.ensures,
      c.count_powers-b_powers.ensures,
    ))
    c.put_record.ensures
