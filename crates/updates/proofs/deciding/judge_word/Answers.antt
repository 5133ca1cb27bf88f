-- `judge_word` meets its contract: the bytes that are counted are the record, and then the one that is stored. Assumes
-- nothing.
use mathlib.Core.Path.{◌≡◌, sym, ap}
use mathlib.Core.List.{List}
use Prim.Native.Nat.{ℕ}
use native.Mathlib.Omega.{arith}
use lib.ListN.{take}
use lib.Seq.{length-take-le}
use Rattle.std.proofs.lemmas.Result.{err_from_is_err_and}
use Rattle.fields.specs.Fields.{Bytes}
use Rattle.refusals.proofs.Answered.{count_in}
use Rattle.records.proofs.SmallerRecords.{smaller-inside}
use Rattle.updates.proofs.OwnRecords.{count_inside, decided_with, unwritten, unplaced}
use Rattle.updates.proofs.deciding.judge_word.Goals as goal

pub returns-in_err-n : goal.returns-in_err-n
returns-in_err-n c =
    let bytes : Bytes c.args.register.now = λ i. omega (arith, c.type_inv.register i) in
    let p = err_from_is_err_and c.from_residual.result c.from_residual.ensures.1 in
    rw (p.1, p.2) (unwritten c.word_to_record.ensures bytes _ c.in_err-n.was _)

pub slice_bounds-put_smaller-end : goal.slice_bounds-put_smaller-end
slice_bounds-put_smaller-end c =
    let n : c.in_ok-n.n ≡ count_in c.word_to_record.result = sym (ap count_in c.in_ok-n.was) in
    omega (arith, n, count_inside c.word_to_record.ensures)

pub slice_bounds-put_smaller-end-2 : goal.slice_bounds-put_smaller-end-2
slice_bounds-put_smaller-end-2 c = sym (length-take-le _ _ (slice_bounds-put_smaller-end c))

pub returns-in_err-m : goal.returns-in_err-m
returns-in_err-m c =
    let bytes : Bytes c.args.register.now = λ i. omega (arith, c.type_inv.register i) in
    let n : c.in_ok-n.n ≡ count_in c.word_to_record.result = sym (ap count_in c.in_ok-n.was) in
    let p = err_from_is_err_and c.from_residual-in_err-m.result c.from_residual-in_err-m.ensures.1 in
    rw (p.1, p.2) (unplaced c.word_to_record.ensures bytes c.args.stored.now n c.put_smaller.ensures _ c.in_err-m.was)

pub slice_bounds-judge-end : goal.slice_bounds-judge-end
slice_bounds-judge-end c =
    let stored : List ℕ = c.args.stored.now in
    let own = c.word_to_record.new.record in
    let m : c.in_ok-m.m ≡ count_in c.put_smaller.result = sym (ap count_in c.in_ok-m.was) in
    omega (arith, m, smaller-inside (take c.in_ok-n.n own) stored c.put_smaller.result c.put_smaller.ensures)

pub slice_bounds-judge-end-2 : goal.slice_bounds-judge-end-2
slice_bounds-judge-end-2 c = sym (length-take-le _ _ (slice_bounds-judge-end c))

pub returns : goal.returns
returns c =
    decided_with c.args.stored.now c.word_to_record.ensures (sym (ap count_in c.in_ok-n.was))
    c.put_smaller.ensures (sym (ap count_in c.in_ok-m.was)) c.judge.ensures
