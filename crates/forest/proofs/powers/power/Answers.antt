use Prim.Native.Nat.{◌+◌, ◌-◌}
use native.Mathlib.Numerals.{unary_clauses}
use native.Mathlib.Omega.{arith}
use Rattle.forest.proofs.PowerTurns.{turning_starts, turning_ready, turning_more}
use Rattle.forest.proofs.PowerTurns.{turning_ends}
use Rattle.forest.proofs.powers.power.Goals as goal

pub loop-init : goal.loop-init
loop-init c = simp unary_clauses (turning_starts c.requires c.pop-p.ensures)

pub turn-hand-requires : goal.turn-hand-requires
turn-hand-requires c = turning_ready c.loop.invariant (omega arith)

pub loop-preserved : goal.loop-preserved
loop-preserved c =
    let start = c.loop in
    let kept = c.turn-hand.auto in
    turning_more start.invariant (c.args.e - (start.counter + 1)) (omega (arith, c.loop-test.true)) kept.lefts
    kept.rights kept.stack c.turn-hand.ensures

pub returns : goal.returns
returns c = turning_ends c.loop.invariant (omega arith) c.push-top.ensures
