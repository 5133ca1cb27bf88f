-- What `needed` gives is the least number above i + e_i + e_(i+1) + … + e_n for each e_i above 0. That it is the
-- smallest number of carets of a tree with these exponents (01, 'The tree pair and the length') is proved in Built.
--     Holds n es   n is above each of these sums
-- Assumes nothing.
use mathlib.Core.Path.{◌≡◌, sym}
use mathlib.Core.List.{List, [], ◌∷◌}
use mathlib.Core.Logic.{◌↔◌}
use Prim.Native.Nat.{ℕ, zero, suc, ◌+◌, ◌<◌, ◌≤◌}
use native.Mathlib.Omega.{arith}
use native.Mathlib.Decide.{dec_le}
use lib.ListN.{length, get_or, drop, get_or-eq_default}
use Rattle.lists.specs.Entries.{total}
use Rattle.lists.specs.inside.Entries.{SameEntries}
use Rattle.lists.proofs.Totals.{drop-total, drop-total_same, total_zeros}
use Rattle.trees.specs.Building.{needed}

-- n is above i + e_i + e_(i+1) + … for each i with e_i above 0.
abbrev pub Holds : ℕ → List ℕ → Type 0
Holds n es = (i : ℕ) → 0 < get_or es i 0 → i + total (drop i es) < n

-- The same, with the first index k.
abbrev HoldsFrom : ℕ → ℕ → List ℕ → Type 0
HoldsFrom k n es = (i : ℕ) → 0 < get_or es i 0 → k + (i + total (drop i es)) < n

needed_least : (k n : ℕ) (es : List ℕ) → HoldsFrom k n es → needed k es ≤ n
needed_least k n [] h = omega arith
needed_least k n (zero ∷ es) h = needed_least (suc k) n es (λ i p. omega (arith, h (suc i) p))
needed_least k n (suc e ∷ es) h =
    omega (arith, h 0 (omega arith), needed_least (suc k) n es (λ i p. omega (arith, h (suc i) p)))

needed_above : (k n : ℕ) (es : List ℕ) → needed k es ≤ n → HoldsFrom k n es
needed_above k n [] h i p = absurd (omega arith)
needed_above k n (zero ∷ es) h zero p = absurd (omega arith)
needed_above k n (zero ∷ es) h (suc i) p = omega (arith, needed_above (suc k) n es h i p)
needed_above k n (suc e ∷ es) h zero p =
    omega arith
needed_above k n (suc e ∷ es) h (suc i) p =
    omega (arith, needed_above (suc k) n es (omega arith) i p)

-- It is the least number that holds.
pub needed-holds : (n : ℕ) (es : List ℕ) → Holds n es ↔ (needed 0 es ≤ n)
needed-holds n es = (
  (λ h. needed_least 0 n es (λ i p. omega (arith, h i p))),
  λ h i p. omega (arith, needed_above 0 n es h i p),
)

-- Whether a number holds depends on the entries only.
pub holds_same : (n : ℕ) (es fs : List ℕ) → SameEntries es fs → Holds n es → Holds n fs
holds_same n es fs e h i p = omega (arith, h i (omega (arith, e i)), drop-total_same i es fs e)

-- And so does the least.
pub needed_same : (es fs : List ℕ) → SameEntries es fs → needed 0 es ≡ needed 0 fs
needed_same es fs e = omega (arith, one es fs e, one fs es (λ i. sym (e i)))
  where
    one : (xs ys : List ℕ) → SameEntries xs ys → needed 0 ys ≤ needed 0 xs
    one xs ys q =
        (needed-holds (needed 0 xs) ys).0
        (holds_same (needed 0 xs) xs ys q ((needed-holds (needed 0 xs) xs).1 (omega arith)))

-- It is at most the number of entries and their sum together.
pub needed_bound : (es : List ℕ) → needed 0 es ≤ length es + total es
needed_bound es = (needed-holds (length es + total es) es).0 (λ i p. go i p (dec_le (length es) i))
  where
    go : (i : ℕ) → 0 < get_or es i 0 → Dec (length es ≤ i) → i + total (drop i es) < length es + total es
    go i p (yes c) = absurd (omega (arith, get_or-eq_default es 0 {n = i} c))
    go i p (no c) = omega (arith, drop-total i es)

-- Where 0 holds, all entries are 0.
pub holds_none : (es : List ℕ) → Holds 0 es → SameEntries es []
holds_none es h i = go (get_or es i 0) (λ p. h i p)
  where
    go : (k : ℕ) → (0 < k → i + total (drop i es) < 0) → k ≡ 0
    go zero f = omega arith
    go (suc k) f = absurd (omega (arith, f (omega arith)))

-- No number below the sum of the exponents holds.
pub holds-total : (n : ℕ) (es : List ℕ) → Holds n es → total es ≤ n
holds-total n [] h = omega arith
holds-total n (suc e ∷ es) h = omega (arith, h 0 (omega arith))
holds-total zero (zero ∷ es) h = omega (arith, total_zeros (zero ∷ es) (holds_none (zero ∷ es) h))
holds-total (suc n) (zero ∷ es) h = omega (arith, holds-total n es (λ i p. omega (arith, h (suc i) p)))

-- A number above 0 that holds is above the sum.
pub holds_above : (n e : ℕ) (es : List ℕ) → Holds (suc n) (e ∷ es) → e + total es ≤ n
holds_above n zero es h = omega (arith, holds-total n es (λ i p. omega (arith, h (suc i) p)))
holds_above n (suc e) es h = omega (arith, h 0 (omega arith))
