-- The trees of a form have at most two carets more than its length (000, section 3.1; 001, Table 1): every column but
-- the dropped ones weighs at least 1, so that the rows are closed behind as many columns as the length, and then the
-- exponents need no more carets. Assumes nothing.
use mathlib.Core.List.{List, [], ◌∷◌}
use Prim.Native.Nat.{ℕ, zero, suc, ◌+◌, ◌<◌, ◌≤◌}
use native.Mathlib.Omega.{arith}
use lib.ListN.{drop, get_or}
use Rattle.lists.specs.Entries.{total}
use Rattle.lists.proofs.Totals.{entry_total, drop-total}
use Rattle.group.specs.Forms.{b_side, a_side, Form, exponents}
use Rattle.trees.specs.Building.{needed}
use Rattle.trees.specs.Pairs.{carets_of}
use Rattle.trees.proofs.Needed.{Holds, needed-holds}
use Rattle.lengths.specs.Weights.{form_length}
use Rattle.geodesics.specs.Rows.{first, rest, row, next_open, next_left, from_one}
use Rattle.geodesics.specs.inside.Costs.{Closed}
use Rattle.geodesics.proofs.Sides.{sides_length}
use Rattle.geodesics.proofs.Enough.{first-total}
use Rattle.geodesics.proofs.SideLengths.{length_closed, closed_total, from_total}
use Rattle.geodesics.proofs.Fordham.{sides_of, form_length_lem}

open_least : (s e : ℕ) → e ≤ next_open s e
open_least zero e = omega arith
open_least (suc s) e = omega arith

-- A row that is closed behind n carets has closed, from each exponent above 0 on, all that these exponents open.
row_holds : (n s l : ℕ) (es : List ℕ) (i : ℕ) → Closed n (row s l es) → 0 < get_or es i 0 → i + total (drop i es) < n
row_holds zero s l es i h p = absurd (omega (arith, entry_total i es, drop-total i es))
row_holds (suc n) s l es zero h p =
    omega (
      arith,
      closed_total n (next_open s (first es)) (next_left s l) (rest es) h,
      open_least s (first es),
      first-total es,
    )
row_holds (suc n) s l [] (suc i) h p = absurd (omega arith)
row_holds (suc n) s l (e ∷ es) (suc i) h p = omega (arith, row_holds n (next_open s e) (next_left s l) es i h p)

from_holds : (n : ℕ) (es : List ℕ) → Closed n (from_one es) → Holds (n + 2) es
from_holds n es h zero p = omega (arith, from_total n es h)
from_holds n [] h (suc i) p = absurd (omega arith)
from_holds n (e ∷ es) h (suc zero) p = omega (arith, from_total n (e ∷ es) h)
from_holds n (e ∷ []) h (suc (suc i)) p = absurd (omega arith)
from_holds n (e ∷ f ∷ es) h (suc (suc i)) p = omega (arith, row_holds n f e es i h p)

from_needed : (n : ℕ) (es : List ℕ) → Closed n (from_one es) → needed 0 es ≤ n + 2
from_needed n es h = (needed-holds (n + 2) es).0 (from_holds n es h)

-- At most two carets more than the length.
pub form_carets : (f : Form) → carets_of f ≤ form_length f + 2
form_carets f =
    let c = length_closed (sides_of f) in
    omega (
      arith,
      form_length_lem f,
      from_needed (sides_length (sides_of f)) (exponents b_side f) c.b_row,
      from_needed (sides_length (sides_of f)) (exponents a_side f) c.a_row,
    )
