-- Whether a buffer is long enough for the receipt of a line. Assumes nothing.
use mathlib.Core.Path.{◌≡◌, sym, ◌∙◌}
use mathlib.Core.Bool.{Bool, true, false, not}
use Prim.Native.Nat.{ℕ, ◌<◌, ◌≤◌}
use borrow.Author.Tests.{ltb-true, ltb-false, not-true, not-false}
use lib.Dec.{ltb}

-- What such a test says of the buffer, where it fails and where it passes.
pub too_short : (out size : ℕ) {r : Bool} → r ≡ not (ltb out size) → r ≡ false → out < size
too_short out size e h = ltb-true out size (not-false (ltb out size) (sym e ∙ h))

pub long_enough : (out size : ℕ) {r : Bool} → r ≡ not (ltb out size) → r ≡ true → size ≤ out
long_enough out size e h = ltb-false out size (not-true (ltb out size) (sym e ∙ h))
