use native.Mathlib.Omega.{arith}
use Rattle.growing.proofs.GrowSteps.{first_fits, grows_start, grows_done}
use Rattle.growing.proofs.GrowSteps.{shifted_fits, shifted_count_fits, grows_more}
use Rattle.growing.proofs.inserting.insert.Goals as goal

pub loop-j-init : goal.loop-j-init
loop-j-init c = grows_start c.requires c.opened-grown.ensures c.carried-carry.ensures

pub overflow_add-count : goal.overflow_add-count
overflow_add-count c = record { fits = first_fits c.requires c.opened-grown.ensures }

pub overflow_add-y : goal.overflow_add-y
overflow_add-y c = record { fits = shifted_fits c.loop-j.invariant c.numbers_of-used.ensures c.used_number-x.ensures }

pub overflow_add-count-in-loop-j : goal.overflow_add-count-in-loop-j
overflow_add-count-in-loop-j c = record {
  fits =
      shifted_count_fits c.loop-j.invariant c.numbers_of-used.ensures c.used_number-x.ensures
      (omega (arith, c.numbers_of-end.ensures));
}

pub loop-j-preserved : goal.loop-j-preserved
loop-j-preserved c =
    grows_more c.loop-j.invariant c.numbers_of-used.ensures c.used_number-x.ensures
    (omega (arith, c.numbers_of-end.ensures))

pub returns : goal.returns
returns c = grows_done c.loop-j.invariant (omega (arith, c.numbers_of-end.ensures))
