-- `put_number` meets its contract: the digits, then the byte. Assumes nothing.
use mathlib.Core.Path.{refl}
use mathlib.Core.List.{[], ◌∷◌}
use native.Mathlib.Omega.{arith}
use Rattle.lists.proofs.Writes.{write_then}
use Rattle.printing.proofs.Fitting.{decimal_wrote}
use Rattle.rows.proofs.text.put_number.Goals as goal

pub bounds-out-end : goal.bounds-out-end
bounds-out-end c =
    let digits = decimal_wrote c.args.n (omega arith) (omega (arith, c.requires)) c.put_decimal-end.ensures in
    omega (arith, c.requires, digits.1, c.put_decimal-end.auto)

pub overflow_add-result : goal.overflow_add-result
overflow_add-result c =
    let digits = decimal_wrote c.args.n (omega arith) (omega (arith, c.requires)) c.put_decimal-end.ensures in
    omega (arith, c.requires, digits.1)

pub returns : goal.returns
returns c =
    let digits = decimal_wrote c.args.n (omega arith) (omega (arith, c.requires)) c.put_decimal-end.ensures in
    write_then {b = c.args.behind ∷ []} digits.0 (record { ends = refl; holds = refl })
