-- `side_at_one` meets its contract. Assumes nothing.
use mathlib.Core.Path.{refl}
use Rattle.scans.proofs.scan.side_at_one.Goals as goal

pub returns : goal.returns
returns c = rw (c.exponent.ensures, c.exponent-2.ensures) refl
