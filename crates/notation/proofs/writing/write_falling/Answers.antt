use mathlib.Core.Path.{sym, ap}
use mathlib.Core.List.{List}
use Prim.Native.Nat.{ℕ, suc}
use native.Mathlib.Omega.{arith}
use lib.Seq.{take_all}
use Rattle.lists.proofs.Writes.{write_start, writing_same, write_done}
use Rattle.group.specs.Limits.{limit}
use Rattle.tokens.specs.Texts.{further_text}
use Rattle.notation.specs.inside.Tables.{falling_in}
use Rattle.notation.proofs.Texts.{next_more, next_room}
use Rattle.notation.proofs.Tables.{falling_next, falling_done}
use Rattle.notation.proofs.writing.write_falling.Goals as goal

pub loop-k-init : goal.loop-k-init
loop-k-init c =
    writing_same
    (ap (λ (t : List ℕ). further_text (falling_in 0 t)) (sym (take_all (suc limit) c.args.a.now (omega arith))))
    (write_start _ _ _)

pub put_power-at-requires : goal.put_power-at-requires
put_power-at-requires c =
    let next = falling_next c.args.a.now c.loop-k.k (omega arith) (omega arith) in
    next_room c.loop-k.invariant next (omega arith)

pub loop-k-preserved : goal.loop-k-preserved
loop-k-preserved c =
    let next = falling_next c.args.a.now c.loop-k.k (omega arith) (omega arith) in
    next_more c.loop-k.invariant next c.put_power-at.ensures

pub returns : goal.returns
returns c =
    write_done
    (writing_same (ap further_text (falling_done c.args.a.now c.loop-k.k (omega arith))) c.loop-k.invariant)
