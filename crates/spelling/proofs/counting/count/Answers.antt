-- `count` meets its contract: both tables hold 16-bit numbers, so that no sum is too large. Assumes nothing.
use mathlib.Core.Path.{refl}
use native.Mathlib.Omega.{arith}
use Rattle.spelling.proofs.Tables.{passed, passed_count, sized_top, sized_last}
use Rattle.spelling.proofs.counting.count.Goals as goal

pub count_rising-top-requires : goal.count_rising-top-requires
count_rising-top-requires c =
    let states = passed c.args.b.now c.args.a.now c.new.ensures refl refl in
    let top = sized_top states (λ i. omega (arith, c.type_inv.b i)) in
    record {
      limit_in_bounds = omega (arith, c.requires);
      b_bound = omega (arith, top.most);
    }

pub count_falling-last-requires : goal.count_falling-last-requires
count_falling-last-requires c =
    let states =
    passed c.args.b.now c.args.a.now c.new.ensures c.count_rising-top.ensures refl in
    let last =
    sized_last states (λ i. omega (arith, c.type_inv.b i))
    (λ i. omega (arith, c.type_inv.a i)) in
    record {
      limit_in_bounds = omega (arith, c.requires);
      a_bound = omega (arith, last.most);
    }

pub overflow_add-result : goal.overflow_add-result
overflow_add-result c =
    let states =
    passed c.args.b.now c.args.a.now c.new.ensures c.count_rising-top.ensures
    c.count_falling-last.ensures in
    let last =
    sized_last states (λ i. omega (arith, c.type_inv.b i))
    (λ i. omega (arith, c.type_inv.a i)) in
    omega (arith, c.abs_diff.ensures, c.from.ensures, c.type_inv.a 0, last.most, last.near)

pub returns : goal.returns
returns c =
    let states =
    passed c.args.b.now c.args.a.now c.new.ensures c.count_rising-top.ensures
    c.count_falling-last.ensures in
    omega (arith, c.abs_diff.ensures, c.from.ensures, passed_count states)
