-- `cell` meets its contract: the carets so far show nothing in the cell. Assumes nothing.
use mathlib.Core.Path.{◌≡◌}
use Prim.Native.Nat.{◌-◌}
use Rattle.pictures.specs.Characters.{cell_of}
use Rattle.pictures.specs.inside.Tables.{spans_at, table_spans}
use Rattle.pictures.proofs.spans.Spans.cell.Given as goal

abbrev pub invariant-loop-span : goal.invariant-loop-span
invariant-loop-span l = cell_of (table_spans l.self.table l.self.carets) l.h l.c
    ≡ cell_of (spans_at l.self.table l.span-index (l.self.carets - l.span-index)) l.h l.c
