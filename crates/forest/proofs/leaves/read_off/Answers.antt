use native.Mathlib.Omega.{arith}
use Rattle.forest.proofs.Reading.{reading_starts, reading_height, reading_standing, reading_more}
use Rattle.forest.proofs.Reading.{reading_empty}
use Rattle.forest.proofs.leaves.read_off.Goals as goal

pub loop-i-init : goal.loop-i-init
loop-i-init c = reading_starts c.requires

pub returns-then-height-eq0 : goal.returns-then-height-eq0
returns-then-height-eq0 c =
    reading_empty c.loop-i.invariant c.if-height-eq0.true c.zero_rest.ensures
    c.zero_rest-then-height-eq0.ensures

pub pop-p-requires : goal.pop-p-requires
pop-p-requires c = reading_height c.loop-i.invariant

pub descend-l-requires : goal.descend-l-requires
descend-l-requires c =
    let p = c.pop-p in
    reading_standing c.loop-i.invariant p.result.bush p.result.height c.if-height-eq0.false
    p.ensures

pub loop-i-preserved : goal.loop-i-preserved
loop-i-preserved c =
    let p = c.pop-p in
    let d = c.descend-l in
    let tip = d.result in
    reading_more c.loop-i.invariant p.result.bush p.result.height d.new.stack tip.edges
    tip.exponent tip.height (omega arith) d.auto.stack p.ensures d.ensures
