use mathlib.Core.Path.{ap}
use native.Mathlib.Omega.{arith}
use Rattle.lists.proofs.Writes.{writing_same, write_done}
use Rattle.tokens.specs.Texts.{further_text}
use Rattle.notation.proofs.Texts.{next_more, next_room}
use Rattle.notation.proofs.Tables.{rising_next, rising_done}
use Rattle.notation.proofs.writing.write_rising.Goals as goal

pub put_power-at-requires : goal.put_power-at-requires
put_power-at-requires c =
    let next = rising_next c.args.b.now c.loop-k.k (omega arith) in
    next_room c.loop-k.invariant next (omega arith)

pub loop-k-preserved : goal.loop-k-preserved
loop-k-preserved c =
    let next = rising_next c.args.b.now c.loop-k.k (omega arith) in
    next_more c.loop-k.invariant next c.put_power-at.ensures

pub returns : goal.returns
returns c =
    write_done
    (writing_same (ap further_text (rising_done c.args.b.now c.loop-k.k (omega arith))) c.loop-k.invariant)
