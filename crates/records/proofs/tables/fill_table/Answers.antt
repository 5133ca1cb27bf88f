use mathlib.Core.Path.{◌≡◌, sym, ap, ◌∙◌}
use mathlib.Core.List.{List, ◌++◌}
use Prim.Native.Nat.{ℕ, suc, ◌+◌, ◌-◌, ◌*◌, ◌<◌}
use native.Mathlib.Omega.{arith}
use lib.ListN.{length, take, drop, replicate}
use lib.Seq.{length-take-le}
use Rattle.lists.specs.Tables.{values, filled}
use Rattle.lists.proofs.Tables.{values_constant}
use Rattle.group.specs.Limits.{limit}
use Rattle.records.proofs.Placing.{placing_index, placing_more, placing_same, placing_done, placed_filled}
use Rattle.records.specs.inside.Walking.{left_at}
use Rattle.records.specs.inside.Steps.{place_powers_value}
use Rattle.records.proofs.tables.fill_table.Goals as goal

pub bounds-table-number_at : goal.bounds-table-number_at
bounds-table-number_at c =
    let inv = c.loop-i.invariant in
    let some_left : 0 < c.args.p.left - c.loop-i.i = omega arith in
    omega (
      arith,
      placing_index inv _ c.number_at-in-loop-i.ensures.value some_left,
      inv.same,
      c.requires.limit_in_bounds,
    )

pub loop-i-preserved : goal.loop-i-preserved
loop-i-preserved c =
    let i = c.loop-i.i in
    let some_left : 0 < c.args.p.left - i = omega arith in
    let at : c.args.p.at + 4 * i + 4 ≡ c.args.p.at + 4 * (i + 1) = omega arith in
    let left : c.args.p.left - i - 1 ≡ c.args.p.left - (i + 1) = omega arith in
    placing_same at left
    (placing_more c.loop-i.invariant _ _ c.number_at-in-loop-i.ensures.value c.number_at.ensures.value some_left)

pub returns : goal.returns
returns c =
    let args = c.args in
    let entry = args.table.now in
    let powers = left_at args.s.now args.p in
    let long : length (take (suc limit) entry) ≡ suc limit =
    length-take-le (suc limit) entry (omega (arith, c.requires.limit_in_bounds)) in
    let zeros : c.fill.new.self ≡ values (suc limit) (λ i. 0) =
    c.fill.ensures.after (λ y e. e) ∙ ap (λ (n : ℕ). replicate n 0) long ∙ sym (values_constant (suc limit) 0) in
    let cleared : c.fill.new.self ++ drop (suc limit) entry ≡ filled (suc limit) (λ i. 0) entry =
    ap (λ (l : List ℕ). l ++ drop (suc limit) entry) zeros in
    placing_done c.loop-i.invariant (omega arith)
    ∙ ap (place_powers_value powers) cleared
    ∙ placed_filled powers entry c.requires.proper c.requires.limit_in_bounds
