-- `read_few` meets its contract: the clause, then the tables. Assumes nothing.
use mathlib.Core.Path.{◌∙◌}
use Rattle.group.specs.Forms.{b_side, a_side}
use Rattle.records.specs.Faults.{form_read}
use Rattle.clause.proofs.Handing.{into_filled, find_accepted}
use Rattle.records.proofs.Decodings.{powers-filled}
use Rattle.records.proofs.reading.Entries.read_few.Goals as goal

pub returns : goal.returns
returns c =
    let args = c.args in
    let s = args.self.frame.bytes.now in
    into_filled args.b_table.now args.a_table.now
    (find_accepted (form_read s) c.check_few.result c.check_few.ensures c.in_ok-check_few.was)
    c.if-b_table-lt-HANDED.false c.if-a_table-lt-HANDED.false
    (c.fill.ensures.b_table ∙ powers-filled s b_side args.b_table.now)
    (c.fill.ensures.a_table ∙ powers-filled s a_side args.a_table.now)
