-- `cell` meets its contract: an even and an odd column. Assumes nothing.
use mathlib.Core.Path.{sym, ◌∙◌}
use Rattle.pictures.proofs.LeafDigits.{digit_even, digit_odd}
use Rattle.pictures.proofs.numbers.cell.Goals as goal

pub returns-then-c-eq0 : goal.returns-then-c-eq0
returns-then-c-eq0 c =
    let a = c.args in
    c.digit.ensures ∙ sym (digit_even a.place a.c c.if-c-eq0.true)

pub returns-else-c-eq0 : goal.returns-else-c-eq0
returns-else-c-eq0 c = let a = c.args in sym (digit_odd a.place a.c c.if-c-eq0.false)
