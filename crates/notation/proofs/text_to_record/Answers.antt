-- `text_to_record` meets its contract: a refusal of the reader is passed on, else the powers are recorded.
-- Assumes nothing.
use mathlib.Core.Path.{sym}
use native.Mathlib.Omega.{arith}
use lib.Seq.{length-take-le}
use Rattle.std.proofs.lemmas.Result.{err_from_is_err_and}
use Rattle.notation.proofs.TextAnswers.{text_refused, text_long, text_kept, text_sum, text_recorded}
use Rattle.notation.proofs.text_to_record.Goals as goal

pub returns-in_err-count : goal.returns-in_err-count
returns-in_err-count c =
    let p = err_from_is_err_and c.from_residual.result c.from_residual.ensures.1 in
    rw p.1 (text_refused c.read_text.ensures _ (rw (← p.2) at c.in_err-count.was) _)

pub slice_bounds-indices-end : goal.slice_bounds-indices-end
slice_bounds-indices-end c = (text_long c.read_text.ensures c.in_ok-count.field-0 c.in_ok-count.was).0

pub slice_bounds-powers-end : goal.slice_bounds-powers-end
slice_bounds-powers-end c =
    sym (length-take-le _ _ (text_long c.read_text.ensures c.in_ok-count.field-0 c.in_ok-count.was).0)

pub slice_bounds-exponents-end : goal.slice_bounds-exponents-end
slice_bounds-exponents-end c = (text_long c.read_text.ensures c.in_ok-count.field-0 c.in_ok-count.was).1

pub slice_bounds-powers-end-2 : goal.slice_bounds-powers-end-2
slice_bounds-powers-end-2 c =
    sym (length-take-le _ _ (text_long c.read_text.ensures c.in_ok-count.field-0 c.in_ok-count.was).1)

pub slice_bounds-sides-end : goal.slice_bounds-sides-end
slice_bounds-sides-end c = (text_long c.read_text.ensures c.in_ok-count.field-0 c.in_ok-count.was).2

pub slice_bounds-powers-end-3 : goal.slice_bounds-powers-end-3
slice_bounds-powers-end-3 c =
    sym (length-take-le _ _ (text_long c.read_text.ensures c.in_ok-count.field-0 c.in_ok-count.was).2)

pub invariant_of-powers : goal.invariant_of-powers
invariant_of-powers c =
    let k = text_kept c.read_text.ensures c.in_ok-count.field-0 c.in_ok-count.was in
    let s = text_sum c.read_text.ensures c.in_ok-count.field-0 c.in_ok-count.was in
    record {
      exponents_length = k.es_length;
      sides_length = k.ss_length;
      ranged = k.in_range;
      small = omega (arith, k.small, s);
      summed = s;
    }

pub returns : goal.returns
returns c = text_recorded c.read_text.ensures c.in_ok-count.field-0 c.in_ok-count.was c.record.ensures
