-- `measured` meets its contract. Assumes nothing.
use Rattle.records.proofs.ClearedTables.{own_cleared}
use Rattle.pairs.proofs.Answers.{length_never, length-answer}
use Rattle.pairs.proofs.measured.Goals as goal

pub unreachable-requires : goal.unreachable-requires
unreachable-requires g c =
    length_never own_cleared c.record_to_tables-read.ensures c.in-Ok.is
    (c.requires.measures _ _ _ c.in-None.ensures)

pub returns : goal.returns
returns g c =
    length-answer own_cleared c.record_to_tables-read.ensures c.in-Ok.is
    (c.requires.measures _ _ _ c.in-Some.ensures)
