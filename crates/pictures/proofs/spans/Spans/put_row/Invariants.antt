-- `put_row` meets its contract: in front of each turn the cells from column c on are left. Assumes nothing.
use Prim.Native.Nat.{◌+◌, ◌-◌, ◌*◌}
use Rattle.pictures.specs.Characters.{cells_from}
use Rattle.pictures.specs.inside.Tables.{table_spans}
use Rattle.pictures.proofs.Pieces.{Left}
use Rattle.pictures.proofs.spans.Spans.put_row.Given as goal

abbrev pub invariant-loop-c : goal.invariant-loop-c
invariant-loop-c l =
    Left (cells_from (table_spans l.self.table l.self.carets) l.h l.c (2 * l.self.carets + 1 - (l.c + l.h))) l.out l.end
    (cells_from (table_spans l.self.table l.self.carets) l.h 0 (2 * l.self.carets + 1 - (0 + l.h))) l.initial.out l.at
