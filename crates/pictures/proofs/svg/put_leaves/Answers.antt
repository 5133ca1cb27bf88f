use native.Mathlib.Omega.{arith}
use Rattle.appending.proofs.Appending.{append_same}
use Rattle.pictures.proofs.Pieces.{left_start, left_more, left_last}
use Rattle.pictures.proofs.Carets.{leaves_all, leaves_next, leaves_none}
use Rattle.pictures.proofs.svg.put_leaves.Goals as goal

pub loop-k-init : goal.loop-k-init
loop-k-init c = left_start _ _ _

pub put_leaf-end-requires : goal.put_leaf-end-requires
put_leaf-end-requires c = omega arith

pub loop-k-preserved : goal.loop-k-preserved
loop-k-preserved c =
    left_more (leaves_next c.args.n c.loop-k.k (omega arith)) c.loop-k.invariant
    c.put_leaf-end.ensures

pub returns : goal.returns
returns c =
    let n = c.args.n in
    append_same (leaves_all n)
    (left_last (leaves_none n c.loop-k.k (omega arith)) c.loop-k.invariant c.append.ensures)
