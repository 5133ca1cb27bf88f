-- `put_rows` meets its contract: in front of each turn the rows from h down are left. Assumes nothing.
use Rattle.pictures.specs.Characters.{rows_of}
use Rattle.pictures.specs.inside.Tables.{table_spans}
use Rattle.pictures.proofs.Pieces.{Left}
use Rattle.pictures.proofs.spans.Spans.put_rows.Given as goal

abbrev pub invariant-loop-h : goal.invariant-loop-h
invariant-loop-h l =
    Left (rows_of (table_spans l.self.table l.self.carets) l.self.carets l.h) l.out l.end
    (rows_of (table_spans l.self.table l.self.carets) l.self.carets l.self.carets) l.initial.out l.at
