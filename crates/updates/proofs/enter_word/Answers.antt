-- `enter_word` meets its contract: the word is judged, then the filing, and then what was decided is committed.
-- Assumes nothing.
use mathlib.Core.Path.{◌≡◌, sym, ap}
use Prim.Native.Nat.{◌<◌}
use native.Mathlib.Omega.{arith}
use lib.Seq.{length-take-le}
use Rattle.std.proofs.lemmas.Result.{err_from_is_err_and}
use Rattle.fields.specs.Fields.{Bytes}
use Rattle.refusals.specs.Memory.{Memory, memory}
use Rattle.refusals.proofs.Answered.{count_in}
use Rattle.words.specs.inside.Writing.{Accepts}
use Rattle.words.proofs.Written.{verdict_accepts}
use Rattle.updates.proofs.OwnRecords.{count_inside}
use Rattle.updates.proofs.Enterings.{word_refused, filing_refused, never_refused, committable, entered_so}
use Rattle.updates.proofs.enter_word.Goals as goal

pub returns-in_err-judge : goal.returns-in_err-judge
returns-in_err-judge c =
    let are_bytes : Bytes c.args.register.now = λ i. omega (arith, c.type_inv.register i) in
    let two_bytes_is : c.args.holder < 65536 = omega (arith, c.ranges.holder) in
    let p = err_from_is_err_and c.from_residual.result c.from_residual.ensures.1 in
    rw (p.1, p.2) (word_refused _ _ _ _ two_bytes_is are_bytes c.judge.result c.judge.ensures c.in_err-judge.was)

pub returns-in_err-decision : goal.returns-in_err-decision
returns-in_err-decision c =
    let lent : Memory = memory c.args.b_table.now c.args.a_table.now c.args.«record».now in
    let are_bytes : Bytes c.args.register.now = c.decide.ensures.are_bytes in
    let two_bytes_is : c.args.holder < 65536 = omega (arith, c.ranges.holder) in
    let accepts : Accepts c.args.word.now lent =
    verdict_accepts c.args.word.now lent c.judge.result c.judge.ensures c.in_ok-judge.was in
    let p = err_from_is_err_and c.from_residual-in_err-decision.result c.from_residual-in_err-decision.ensures.1 in
    rw (p.1, p.2)
    (filing_refused _ _ _ _ two_bytes_is are_bytes accepts c.decide.ensures c.in_err-decision.was)

pub returns-in_err-n : goal.returns-in_err-n
returns-in_err-n c =
    let lent : Memory = memory c.args.b_table.now c.args.a_table.now c.args.«record».now in
    let are_bytes : Bytes c.args.register.now = c.decide.ensures.are_bytes in
    let two_bytes_is : c.args.holder < 65536 = omega (arith, c.ranges.holder) in
    let accepts : Accepts c.args.word.now lent =
    verdict_accepts c.args.word.now lent c.judge.result c.judge.ensures c.in_ok-judge.was in
    absurd
    (never_refused _ _ _ _ two_bytes_is are_bytes accepts c.decide.ensures c.word_to_record.ensures _
    c.in_err-n.was)

pub slice_bounds-commit-end : goal.slice_bounds-commit-end
slice_bounds-commit-end c =
    let n : c.in_ok-n.n ≡ count_in c.word_to_record.result = sym (ap count_in c.in_ok-n.was) in
    omega (arith, n, count_inside c.word_to_record.ensures)

pub slice_bounds-commit-end-2 : goal.slice_bounds-commit-end-2
slice_bounds-commit-end-2 c = sym (length-take-le _ _ (slice_bounds-commit-end c))

pub commit-requires : goal.commit-requires
commit-requires c =
    let lent : Memory = memory c.args.b_table.now c.args.a_table.now c.args.«record».now in
    let are_bytes : Bytes c.args.register.now = c.decide.ensures.are_bytes in
    let two_bytes_is : c.args.holder < 65536 = omega (arith, c.ranges.holder) in
    let accepts : Accepts c.args.word.now lent =
    verdict_accepts c.args.word.now lent c.judge.result c.judge.ensures c.in_ok-judge.was in
    committable _ _ _ _ two_bytes_is are_bytes accepts
    c.decide.ensures c.word_to_record.ensures (sym (ap count_in c.in_ok-n.was)) c.in_ok-decision.was

pub returns : goal.returns
returns c =
    let lent : Memory = memory c.args.b_table.now c.args.a_table.now c.args.«record».now in
    let are_bytes : Bytes c.args.register.now = c.decide.ensures.are_bytes in
    let two_bytes_is : c.args.holder < 65536 = omega (arith, c.ranges.holder) in
    let accepts : Accepts c.args.word.now lent =
    verdict_accepts c.args.word.now lent c.judge.result c.judge.ensures c.in_ok-judge.was in
    entered_so _ _ _ _ two_bytes_is are_bytes accepts
    c.decide.ensures c.word_to_record.ensures (sym (ap count_in c.in_ok-n.was)) c.in_ok-decision.was
    c.commit.ensures
