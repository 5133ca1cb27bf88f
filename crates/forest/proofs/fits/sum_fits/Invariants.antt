-- `fits::sum_fits` meets its contract: what is left of the limit is what the exponents so far left. Assumes nothing.
use mathlib.Core.Path.{◌≡◌}
use Prim.Native.Nat.{◌+◌}
use lib.ListN.{drop}
use Rattle.lists.specs.Entries.{total}
use Rattle.group.specs.Limits.{limit}
use Rattle.forest.proofs.fits.sum_fits.Given as goal

abbrev pub invariant-loop-e : goal.invariant-loop-e
invariant-loop-e l = total l.exponents + l.left ≡ limit + total (drop l.e-index l.exponents)
