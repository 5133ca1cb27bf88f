-- `read_many` meets its contract: the clause and the copies from two cleared tables. Assumes nothing.
use Rattle.records.specs.Faults.{form_read}
use Rattle.records.proofs.Checks.{tables_show}
use Rattle.records.proofs.reading.Entries.read_many.Goals as goal

pub returns : goal.returns
returns c =
    let args = c.args in
    c.hand_over.ensures (form_read args.self.frame.bytes.now)
    (tables_show args.self.frame.bytes.now _ _ c.fill.ensures.b_table c.fill.ensures.a_table)
