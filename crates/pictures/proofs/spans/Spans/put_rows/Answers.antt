use native.Mathlib.Omega.{arith}
use Rattle.pictures.specs.inside.Tables.{table_spans}
use Rattle.pictures.proofs.Pieces.{left_more, left_last}
use Rattle.pictures.proofs.Cells.{rows_next, rows_none}
use Rattle.pictures.proofs.spans.Spans.put_rows.Goals as goal

pub loop-h-preserved : goal.loop-h-preserved
loop-h-preserved c =
    let s = c.args.self.now in
    left_more (rows_next (table_spans s.table s.carets) s.carets c.loop-h.h (omega arith)) c.loop-h.invariant
    c.put_row-end.ensures

pub returns : goal.returns
returns c =
    let s = c.args.self.now in
    left_last (rows_none (table_spans s.table s.carets) s.carets c.loop-h.h (omega arith)) c.loop-h.invariant
    c.put_numbers.ensures
