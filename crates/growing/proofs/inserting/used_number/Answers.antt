-- `used_number` meets its contract. Assumes nothing.
use mathlib.Core.Path.{sym, ap}
use mathlib.Core.Bool.{Bool, cond}
use native.Mathlib.Omega.{arith}
use borrow.Author.Tests.{lt-ltb, le-ltb}
use lib.ListN.{get_or}
use Rattle.growing.proofs.inserting.used_number.Goals as goal

pub returns-then-j-used : goal.returns-then-j-used
returns-then-j-used c =
    let args = c.args in
    ap (λ (b : Bool). cond b (get_or args.numbers.now args.j 0) 0)
    (sym (lt-ltb args.j args.used (omega arith)))

pub returns-else-j-used : goal.returns-else-j-used
returns-else-j-used c =
    let args = c.args in
    ap (λ (b : Bool). cond b (get_or args.numbers.now args.j 0) 0)
    (sym (le-ltb args.j args.used (omega arith)))
