-- `put_exponent` meets its contract: `^-` and the decimal, or nothing, or `^` and the decimal. Assumes nothing.
use mathlib.Core.Path.{sym, ap}
use native.Mathlib.Omega.{arith}
use lib.ListN.{length, length-set}
use Rattle.lists.proofs.Writes.{write_then, wrote_same, wrote_none}
use Rattle.printing.proofs.Fitting.{put_behind}
use Rattle.notation.proofs.Texts.{exponent-inverse, exponent_one, exponent_more}
use Rattle.notation.proofs.Texts.{one_wrote, two_wrote, two_length}
use Rattle.notation.proofs.writing.put_exponent.Goals as goal

pub bounds-out-at : goal.bounds-out-at
bounds-out-at c = omega (arith, ap length (exponent-inverse c.args.e c.if-inverse.true))

pub overflow_add-out : goal.overflow_add-out
overflow_add-out c = omega (arith, ap length (exponent-inverse c.args.e c.if-inverse.true))

pub bounds-out-at-then-inverse : goal.bounds-out-at-then-inverse
bounds-out-at-then-inverse c =
    let args = c.args in
    omega (
      arith,
      ap length (exponent-inverse args.e c.if-inverse.true),
      length-set args.out.now args.at 94,
    )

pub overflow_add-at : goal.overflow_add-at
overflow_add-at c = omega (arith, ap length (exponent-inverse c.args.e c.if-inverse.true))

pub shape_of-out-then-inverse : goal.shape_of-out-then-inverse
shape_of-out-then-inverse c =
    let args = c.args in
    omega (arith, c.put_decimal.auto, two_length args.out.now args.at 94 45)

pub returns-then-inverse : goal.returns-then-inverse
returns-then-inverse c =
    let text = exponent-inverse c.args.e c.if-inverse.true in
    let signs = two_wrote c.args.out.now c.args.at 94 45 in
    let digits = put_behind (omega (arith, c.requires, ap length text)) signs c.put_decimal.ensures in
    wrote_same (sym text) (write_then signs digits)

pub returns-then-e-eq1 : goal.returns-then-e-eq1
returns-then-e-eq1 c = wrote_same (sym (exponent_one c.args.e c.if-inverse.false c.if-e-eq1.true)) (wrote_none _ _)

pub bounds-out-at-2 : goal.bounds-out-at-2
bounds-out-at-2 c = omega (arith, ap length (exponent_more c.args.e c.if-inverse.false c.if-e-eq1.false))

pub overflow_add-at-2 : goal.overflow_add-at-2
overflow_add-at-2 c = omega (arith, ap length (exponent_more c.args.e c.if-inverse.false c.if-e-eq1.false))

pub shape_of-out : goal.shape_of-out
shape_of-out c =
    let args = c.args in
    omega (arith, c.put_decimal-2.auto, length-set args.out.now args.at 94)

pub returns : goal.returns
returns c =
    let text = exponent_more c.args.e c.if-inverse.false c.if-e-eq1.false in
    let sign = one_wrote c.args.out.now c.args.at 94 in
    let digits = put_behind (omega (arith, c.requires, ap length text)) sign c.put_decimal-2.ensures in
    wrote_same (sym text) (write_then sign digits)
