-- `check_many` meets its contract: the clause is tested on two cleared tables. Assumes nothing.
use Rattle.records.proofs.Checks.{tables_show}
use Rattle.records.specs.Faults.{form_read}
use Rattle.records.proofs.reading.Entries.check_many.Goals as goal

pub returns : goal.returns
returns c =
    let args = c.args in
    c.check_tables.ensures (form_read args.self.frame.bytes.now)
    (tables_show args.self.frame.bytes.now _ _ c.fill.ensures.b_table c.fill.ensures.a_table)
