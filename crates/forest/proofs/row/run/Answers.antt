use mathlib.Core.Path.{◌∙◌}
use native.Mathlib.Omega.{arith}
use Rattle.forest.proofs.Running.{run_ends}
use Rattle.forest.proofs.Running.{unread_front, byte_ready, byte_more}
use Rattle.forest.proofs.Piled.{low_height, ended_piled}
use Rattle.forest.proofs.row.run.Goals as goal

pub step-s-requires : goal.step-s-requires
step-s-requires c =
    let (inv, u, _, _, _) = c.loop-byte.invariant in
    byte_ready _ _ inv u c.in-Some.ensures.steps

pub loop-byte-preserved : goal.loop-byte-preserved
loop-byte-preserved c =
    let same = c.step-s.auto in
    let (inv, u, l, r, s) = c.loop-byte.invariant in
    let steps = c.in-Some.ensures.steps in (
      byte_more _ _ inv u steps same.lefts same.rights same.stack c.step-s.ensures,
      unread_front _ _ u steps,
      same.lefts ∙ l,
      same.rights ∙ r,
      same.stack ∙ s,
    )

pub push-low-requires : goal.push-low-requires
push-low-requires c =
    let (inv, _, _, _, _) = c.loop-byte.invariant in
    let e = run_ends inv (omega (arith, c.in-None.ensures.steps)) in
    omega (arith, low_height e, e.scratch.stack_length)

pub push-requires : goal.push-requires
push-requires c =
    let (inv, _, _, _, _) = c.loop-byte.invariant in
    let e = run_ends inv (omega (arith, c.in-None.ensures.steps)) in
    omega (arith, low_height e, e.scratch.stack_length, c.push-low.ensures.high, c.push-low.auto.stack)

pub returns : goal.returns
returns c =
    let (inv, _, _, _, _) = c.loop-byte.invariant in
    let e = run_ends inv (omega (arith, c.in-None.ensures.steps)) in
    let one = c.push-low in
    let two = c.push in
    ended_piled e one.auto.stack two.auto.stack one.ensures two.ensures
