use mathlib.Core.Path.{ap}
use mathlib.Core.List.{[], ◌∷◌}
use Prim.Native.Nat.{ℕ}
use native.Mathlib.Omega.{arith}
use Rattle.appending.proofs.Appending.{append_same}
use Rattle.pictures.specs.inside.Tables.{table_spans}
use Rattle.pictures.proofs.Pieces.{left_more, left_last}
use Rattle.pictures.proofs.Cells.{cells_all, cells_next, cells_none}
use Rattle.pictures.proofs.spans.Spans.put_row.Goals as goal

pub loop-c-preserved : goal.loop-c-preserved
loop-c-preserved c =
    let s = c.args.self.now in
    left_more (cells_next (table_spans s.table s.carets) s.carets c.args.h c.loop-c.c (omega arith))
    c.loop-c.invariant
    (append_same (ap (λ (x : ℕ). x ∷ []) c.cell.ensures) c.append_byte-end.ensures)

pub returns : goal.returns
returns c =
    let s = c.args.self.now in
    let ss = table_spans s.table s.carets in
    append_same (cells_all ss s.carets c.args.h)
    (left_last (cells_none ss s.carets c.args.h c.loop-c.c (omega arith)) c.loop-c.invariant
    c.append.ensures)
