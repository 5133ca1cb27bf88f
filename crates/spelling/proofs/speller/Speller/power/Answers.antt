-- `power` meets its contract. Assumes nothing.
use mathlib.Core.Path.{sym}
use Prim.Native.Nat.{◌-◌}
use native.Mathlib.Omega.{arith}
use Rattle.spelling.proofs.Behind.{behind_power_lem}
use Rattle.spelling.proofs.speller.Speller.power.Goals as goal

pub returns : goal.returns
returns c =
    rw (c.abs_diff.ensures, c.from.ensures, c.from-due.ensures)
    (sym (behind_power_lem c.args.self (c.args.k.0 - 1) c.args.e (omega arith)))
