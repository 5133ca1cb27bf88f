use mathlib.Core.Path.{sym}
use native.Mathlib.Omega.{arith}
use Rattle.appending.proofs.Appending.{append-then, append_same}
use Rattle.pictures.proofs.Pieces.{left_more, left_last}
use Rattle.pictures.proofs.KindLines.{line_first, later_next, later_none}
use Rattle.pictures.proofs.spans.Spans.put_kinds.Goals as goal

pub loop-k-preserved : goal.loop-k-preserved
loop-k-preserved c =
    let s = c.args.self.now in
    left_more (later_next s.table s.carets c.loop-k.k (omega arith)) c.loop-k.invariant
    (append-then c.append_byte-end.ensures c.put_kind-end-in-loop-k.ensures)

pub returns : goal.returns
returns c =
    let s = c.args.self.now in
    append_same (sym (line_first s.table s.carets (omega arith)))
    (append-then c.put_kind-end.ensures
    (left_last (later_none s.table s.carets c.loop-k.k (omega arith)) c.loop-k.invariant
    c.append-2.ensures))
