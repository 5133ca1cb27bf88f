use mathlib.Core.Path.{refl}
use Prim.Native.Nat.{◌-◌}
use native.Mathlib.Omega.{arith}
use Rattle.forest.proofs.RunPowers.{powers_index, powers-seek, powers_room}
use Rattle.forest.proofs.RunPowers.{powers_more, powers_end}
use Rattle.forest.proofs.powers.pile_powers.Goals as goal

pub seek-low-requires : goal.seek-low-requires
seek-low-requires c =
    let turn = c.loop-i in
    powers-seek turn.invariant _
    (powers_index turn.invariant (turn.i - 1) _ (omega (arith, c.loop-i-test.true)) refl)

pub power-b-requires : goal.power-b-requires
power-b-requires c =
    let sought = c.seek-low in
    let turn = c.loop-i in
    powers_room turn.invariant (turn.i - 1) _ (omega (arith, c.loop-i-test.true)) refl
    sought.new.before sought.new.stack sought.result sought.auto.before sought.auto.stack sought.ensures

pub loop-i-preserved : goal.loop-i-preserved
loop-i-preserved c =
    let put = c.power-b in
    let sought = c.seek-low in
    let turn = c.loop-i in
    powers_more turn.invariant (turn.i - 1) _ (omega (arith, c.loop-i-test.true)) refl
    sought.new.before sought.new.stack sought.result sought.auto.before sought.auto.stack sought.ensures
    put.auto.lefts put.auto.rights put.auto.stack put.ensures

pub go_back-requires : goal.go_back-requires
go_back-requires c = (powers-seek c.loop-i.invariant 0 (omega arith), omega arith)

pub returns : goal.returns
returns c = powers_end c.loop-i.invariant (omega arith) c.go_back.ensures
