-- `digit` meets its contract: the three cases of a digit. Assumes nothing.
use mathlib.Core.Path.{sym}
use native.Mathlib.Omega.{arith}
use Rattle.pictures.proofs.LeafDigits.{digit_here, digit_unit, digit_none}
use Rattle.pictures.proofs.numbers.digit.Goals as goal

pub returns-then-place-k : goal.returns-then-place-k
returns-then-place-k c = let a = c.args in sym (digit_here a.place a.k (omega arith))

pub returns-then-place-eq1 : goal.returns-then-place-eq1
returns-then-place-eq1 c = let a = c.args in sym (digit_unit a.place a.k (omega arith) (omega arith))

pub returns-else-place-eq1 : goal.returns-else-place-eq1
returns-else-place-eq1 c = let a = c.args in sym (digit_none a.place a.k (omega arith) (λ z. omega arith))
