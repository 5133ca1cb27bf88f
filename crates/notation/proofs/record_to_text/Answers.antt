-- `record_to_text` meets its contract. Assumes nothing.
use Rattle.std.proofs.lemmas.Result.{err_from_is_err_and}
use Rattle.records.proofs.ClearedTables.{own_cleared}
use Rattle.notation.proofs.Answers.{text_refused, text_room_lem, text_answer}
use Rattle.notation.proofs.record_to_text.Goals as goal

pub returns-in_err-record_to_tables : goal.returns-in_err-record_to_tables
returns-in_err-record_to_tables c =
    let p = err_from_is_err_and c.from_residual.result c.from_residual.ensures.1 in
    rw p.1 (text_refused own_cleared c.record_to_tables.ensures (rw (← p.2) at c.in_err-record_to_tables.was))

pub write-requires-clause-a_len_bound : goal.write-requires-clause-a_len_bound
write-requires-clause-a_len_bound c = text_room_lem own_cleared c.record_to_tables.ensures c.in_ok-record_to_tables.was

pub returns : goal.returns
returns c = text_answer own_cleared c.record_to_tables.ensures c.in_ok-record_to_tables.was c.write.ensures
