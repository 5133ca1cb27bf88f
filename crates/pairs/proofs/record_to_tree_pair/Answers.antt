-- `record_to_tree_pair` meets its contract. Assumes nothing.
use Rattle.records.proofs.ClearedTables.{own_cleared}
use Rattle.pairs.proofs.Answers.{pair_answer, pair_never, number, refusing}
use Rattle.pairs.proofs.record_to_tree_pair.Goals as goal

pub unreachable-requires : goal.unreachable-requires
unreachable-requires c =
    pair_never own_cleared c.record_to_tables-read.ensures c.in-Ok.is
    (rw c.in-Err-Unfit.field-0-is at c.in-Err-Unfit.ensures)

pub returns-in-Ok-write_pair : goal.returns-in-Ok-write_pair
returns-in-Ok-write_pair c =
    pair_answer own_cleared c.record_to_tables-read.ensures c.in-Ok.is c.in-Ok-write_pair.ensures (number _)

pub returns-in-Err-Refused : goal.returns-in-Err-Refused
returns-in-Err-Refused c =
    pair_answer own_cleared c.record_to_tables-read.ensures c.in-Ok.is
    (rw c.in-Err-Refused.field-0-is at c.in-Err-Refused.ensures)
    (refusing _)
