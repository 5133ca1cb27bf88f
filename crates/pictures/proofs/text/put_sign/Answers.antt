-- `put_sign` meets its contract: the two cases of a sign. Assumes nothing.
use mathlib.Core.Path.{ap, ◌∙◌}
use Rattle.numerals.specs.Decimals.{decimal}
use Rattle.appending.proofs.Appending.{append_same}
use Rattle.pictures.proofs.Filling.{sign_tilde, sign_other}
use Rattle.pictures.proofs.text.put_sign.Goals as goal

pub returns-then-x-eq126 : goal.returns-then-x-eq126
returns-then-x-eq126 c =
    let a = c.args in
    append_same
    (ap decimal c.number.ensures ∙ sign_tilde a.numbers.now a.j a.x c.if-x-eq126.true)
    c.append_decimal.ensures

pub returns : goal.returns
returns c =
    let a = c.args in
    append_same (sign_other a.numbers.now a.j a.x c.if-x-eq126.false) c.append_byte.ensures
