use native.Mathlib.Omega.{arith}
use Rattle.pictures.proofs.Pieces.{left_more, left_last}
use Rattle.pictures.proofs.Carets.{carets_next, carets_none}
use Rattle.pictures.proofs.spans.Spans.put_carets.Goals as goal

pub loop-k-preserved : goal.loop-k-preserved
loop-k-preserved c =
    let s = c.args.self.now in
    left_more (carets_next s.table s.carets c.loop-k.k (omega arith)) c.loop-k.invariant c.put_caret-end.ensures

pub returns : goal.returns
returns c =
    let s = c.args.self.now in
    left_last (carets_none s.table s.carets c.loop-k.k (omega arith)) c.loop-k.invariant
    c.append.ensures
