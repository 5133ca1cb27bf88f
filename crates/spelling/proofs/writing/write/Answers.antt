-- `write` meets its contract: the b side, the a side, and what is left of the letters due. Assumes nothing.
use mathlib.Core.Path.{refl}
use native.Mathlib.Omega.{arith}
use Rattle.spelling.specs.inside.Steps.{read_exponent}
use Rattle.spelling.proofs.WrittenRuns.{runs_then, spelt_wrote}
use Rattle.spelling.proofs.Tables.{passed, passed_count, passed_top, passed_last}
use Rattle.spelling.proofs.writing.write.Goals as goal

pub write_rising-top-requires : goal.write_rising-top-requires
write_rising-top-requires c =
    let states = passed c.args.b.now c.args.a.now c.new.ensures refl refl in
    record {
      limit_in_bounds = omega (arith, c.requires);
      b_in_bounds = omega (arith, passed_top states, c.requires.a_in_bounds);
    }

pub write_falling-last-requires : goal.write_falling-last-requires
write_falling-last-requires c =
    let states =
    passed c.args.b.now c.args.a.now c.new.ensures c.write_rising-top.ensures.state
    refl in
    record {
      limit_in_bounds = omega (arith, c.requires);
      a_in_bounds = omega (arith, passed_last states, c.requires.a_in_bounds, c.write_rising-top.auto);
    }

pub put_turn-requires : goal.put_turn-requires
put_turn-requires c =
    let states =
    passed c.args.b.now c.args.a.now c.new.ensures c.write_rising-top.ensures.state
    c.write_falling-last.ensures.state in
    omega (arith, passed_count states, c.requires.a_in_bounds, c.write_rising-top.auto, c.write_falling-last.auto)

pub returns : goal.returns
returns c =
    spelt_wrote (read_exponent c.args.b.now 0) (read_exponent c.args.a.now 0) c.new.ensures.0
    c.new.ensures.1 (runs_then c.write_rising-top.ensures c.write_falling-last.ensures)
    (rw c.from.ensures at c.put_turn.ensures)
