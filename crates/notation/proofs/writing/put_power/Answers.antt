-- `put_power` meets its contract: nothing for exponent 0, else a space, `x`, the index and the exponent.
-- Assumes nothing.
use mathlib.Core.Path.{sym}
use mathlib.Core.Bool.{cond}
use native.Mathlib.Omega.{arith}
use lib.ListN.{length-set}
use Rattle.lists.proofs.Writes.{write_then, wrote_same, wrote_none}
use Rattle.group.specs.Forms.{b_side, a_side}
use Rattle.printing.proofs.Fitting.{put_behind}
use Rattle.notation.proofs.Texts.{further_none, further_one, further_length, two_wrote, two_length}
use Rattle.notation.proofs.writing.put_power.Goals as goal

pub returns-then-e-eq0 : goal.returns-then-e-eq0
returns-then-e-eq0 c = wrote_same (sym (further_none _ _ _ c.if-e-eq0.true)) (wrote_none _ _)

pub bounds-out-at : goal.bounds-out-at
bounds-out-at c =
    let args = c.args in
    omega (arith, further_length (cond args.inverse a_side b_side) args.k args.e (omega arith))

pub overflow_add-out : goal.overflow_add-out
overflow_add-out c =
    let args = c.args in
    omega (arith, further_length (cond args.inverse a_side b_side) args.k args.e (omega arith))

pub bounds-out-at-2 : goal.bounds-out-at-2
bounds-out-at-2 c =
    let args = c.args in
    omega (
      arith,
      further_length (cond args.inverse a_side b_side) args.k args.e (omega arith),
      length-set args.out.now args.at 32,
    )

pub overflow_add-at : goal.overflow_add-at
overflow_add-at c =
    let args = c.args in
    omega (arith, further_length (cond args.inverse a_side b_side) args.k args.e (omega arith))

pub put_exponent-requires : goal.put_exponent-requires
put_exponent-requires c =
    let args = c.args in
    let side = cond args.inverse a_side b_side in
    let size = further_length side args.k args.e (omega (arith, c.if-e-eq0.false)) in
    let signs = two_wrote args.out.now args.at 32 120 in
    let digits = put_behind (omega (arith, c.requires, size)) signs c.put_decimal-end.ensures in
    omega (
      arith,
      size,
      two_length args.out.now args.at 32 120,
      c.requires,
      digits.ends,
      c.put_decimal-end.auto,
    )

pub shape_of-out : goal.shape_of-out
shape_of-out c =
    let args = c.args in
    omega (
      arith,
      c.put_exponent.auto,
      c.put_decimal-end.auto,
      two_length args.out.now args.at 32 120,
    )

pub returns : goal.returns
returns c =
    let args = c.args in
    let side = cond args.inverse a_side b_side in
    let size = further_length side args.k args.e (omega (arith, c.if-e-eq0.false)) in
    let signs = two_wrote args.out.now args.at 32 120 in
    let digits = put_behind (omega (arith, c.requires, size)) signs c.put_decimal-end.ensures in
    wrote_same (sym (further_one side args.k args.e (omega (arith, c.if-e-eq0.false))))
    (write_then (write_then signs digits) c.put_exponent.ensures)
