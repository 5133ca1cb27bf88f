-- `same_element` meets its contract: both words are judged, and then written. Assumes nothing.
use Rattle.std.proofs.Common.{rules, sym}
use lib.Seq.{length-take-le}
use Rattle.words.proofs.Lent.{recorded_written}
use Rattle.words.proofs.Written.{record_inside}
use Rattle.comparisons.specs.declared.RefusedWord.TheVariants.{First, Second}
use Rattle.comparisons.proofs.Compared.{named_refusal, kept_acceptance, recorded_ok, first_refused, second_refused}
use Rattle.comparisons.proofs.Compared.{framed, both_written}
use Rattle.comparisons.proofs.same_element.Goals as goal

pub returns-in_err-map_err : goal.returns-in_err-map_err
returns-in_err-map_err c =
    first_refused _ _ _ _ _ c.judge.ensures
    (named_refusal First c.judge.result c.map_err.ensures.cases _ c.in_err-map_err.was) (search rules)

pub returns-in_err-map_err-2 : goal.returns-in_err-map_err-2
returns-in_err-map_err-2 c =
    second_refused _ _ _ _ _
    (kept_acceptance _ _ _ c.judge.ensures c.map_err.ensures.variant c.in_ok-map_err.was) c.judge-2.ensures
    (named_refusal Second c.judge-2.result c.map_err-2.ensures.cases _ c.in_err-map_err-2.was) (search rules)

pub unwrap-first-requires : goal.unwrap-first-requires
unwrap-first-requires c =
    recorded_ok c.record_in.result (kept_acceptance _ _ _ c.judge.ensures c.map_err.ensures.variant c.in_ok-map_err.was)
    c.record_in.ensures

pub unwrap-second-requires : goal.unwrap-second-requires
unwrap-second-requires c =
    recorded_ok c.record_in-2.result
    (kept_acceptance _ _ _ c.judge-2.ensures c.map_err-2.ensures.variant c.in_ok-map_err-2.was)
    c.record_in-2.ensures

pub slice_bounds-verdict-end : goal.slice_bounds-verdict-end
slice_bounds-verdict-end c =
    record_inside (kept_acceptance _ _ _ c.judge.ensures c.map_err.ensures.variant c.in_ok-map_err.was)
    (recorded_written c.record_in.ensures _ c.unwrap-first.ensures)

pub slice_bounds-verdict-end-2 : goal.slice_bounds-verdict-end-2
slice_bounds-verdict-end-2 c = sym (length-take-le _ _ (slice_bounds-verdict-end c))

pub slice_bounds-verdict-end-3 : goal.slice_bounds-verdict-end-3
slice_bounds-verdict-end-3 c =
    record_inside (kept_acceptance _ _ _ c.judge-2.ensures c.map_err-2.ensures.variant c.in_ok-map_err-2.was)
    (recorded_written c.record_in-2.ensures _ c.unwrap-second.ensures)

pub slice_bounds-verdict-end-4 : goal.slice_bounds-verdict-end-4
slice_bounds-verdict-end-4 c = sym (length-take-le _ _ (slice_bounds-verdict-end-3 c))

pub verdict-requires : goal.verdict-requires
verdict-requires c = (
  framed (kept_acceptance _ _ _ c.judge.ensures c.map_err.ensures.variant c.in_ok-map_err.was)
      (recorded_written c.record_in.ensures _ c.unwrap-first.ensures),
  framed (kept_acceptance _ _ _ c.judge-2.ensures c.map_err-2.ensures.variant c.in_ok-map_err-2.was)
      (recorded_written c.record_in-2.ensures _ c.unwrap-second.ensures),
)

pub returns : goal.returns
returns c =
    both_written _ _ _ _ _ _
    (kept_acceptance _ _ _ c.judge.ensures c.map_err.ensures.variant c.in_ok-map_err.was)
    (kept_acceptance _ _ _ c.judge-2.ensures c.map_err-2.ensures.variant c.in_ok-map_err-2.was) _
    (recorded_written c.record_in.ensures _ c.unwrap-first.ensures)
    (recorded_written c.record_in-2.ensures _ c.unwrap-second.ensures) c.verdict.ensures
