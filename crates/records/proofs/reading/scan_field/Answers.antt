use mathlib.Core.Path.{◌≡◌, sym, ◌∙◌}
use Prim.Native.Nat.{◌+◌, ◌-◌, ◌*◌, ◌<◌}
use native.Mathlib.Omega.{arith}
use Rattle.records.proofs.Scanning.{scanning_fault, scanning_more, scanning_same}
use Rattle.records.proofs.reading.scan_field.Goals as goal

pub returns-then-faulty : goal.returns-then-faulty
returns-then-faulty c =
    let some_left : 0 < c.args.p.left - c.loop-i.i = omega arith in
    scanning_fault c.loop-i.invariant _ _ c.number_at-index.ensures.value c.number_at-exponent.ensures.value some_left
    (sym c.faulty.ensures ∙ c.if-faulty.true)

pub loop-i-preserved : goal.loop-i-preserved
loop-i-preserved c =
    let i = c.loop-i.i in
    let some_left : 0 < c.args.p.left - i = omega arith in
    let at : c.args.p.at + 4 * i + 4 ≡ c.args.p.at + 4 * (i + 1) = omega arith in
    let left : c.args.p.left - i - 1 ≡ c.args.p.left - (i + 1) = omega arith in
    scanning_same at left
    (scanning_more c.loop-i.invariant _ _ c.number_at-index.ensures.value c.number_at-exponent.ensures.value some_left
    (sym c.faulty.ensures ∙ c.if-faulty.false))
