-- `keep` meets its contract: two stores, where the table has the row. Assumes nothing.
use native.Mathlib.Omega.{arith}
use mathlib.Core.Path.{refl}
use Rattle.pictures.proofs.spans.keep.Goals as goal

pub returns-then-k-lt-DRAWN : goal.returns-then-k-lt-DRAWN
returns-then-k-lt-DRAWN c = λ h. refl

pub returns-else-k-lt-DRAWN : goal.returns-else-k-lt-DRAWN
returns-else-k-lt-DRAWN c = λ h. absurd (omega arith)
