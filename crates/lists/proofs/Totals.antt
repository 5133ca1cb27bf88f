-- Laws of `total` and of `SameEntries`: lists that differ only in the zeros at their end have the same sums.
-- Assumes nothing.
use mathlib.Core.Path.{◌≡◌, refl, sym, ◌∙◌}
use mathlib.Core.List.{List, [], ◌∷◌, ◌++◌}
use Prim.Native.Nat.{ℕ, zero, suc, ◌+◌, ◌≤◌}
use native.Mathlib.Omega.{arith}
use lib.ListN.{get_or, drop, replicate}
use lib.Seq.{get_or-drop}
use Rattle.lists.specs.Entries.{total}
use Rattle.lists.specs.inside.Entries.{SameEntries}

-- The same first entry and the same entries behind it.
pub same_cons : (x y : ℕ) (xs ys : List ℕ) → x ≡ y → SameEntries xs ys → SameEntries (x ∷ xs) (y ∷ ys)
same_cons x y xs ys e h zero = e
same_cons x y xs ys e h (suc i) = h i

-- The same entries behind one list.
pub same_append : (xs ys zs : List ℕ) → SameEntries ys zs → SameEntries (xs ++ ys) (xs ++ zs)
same_append [] ys zs h i = h i
same_append (x ∷ xs) ys zs h i = same_cons x x (xs ++ ys) (xs ++ zs) refl (same_append xs ys zs h) i

-- Zeros only, with one more in front.
pub same_none : (xs : List ℕ) → SameEntries xs [] → SameEntries (0 ∷ xs) []
same_none xs h zero = refl
same_none xs h (suc i) = h i

-- One zero more at the end.
pub same_zero : SameEntries (0 ∷ []) []
same_zero = same_none [] (λ i. refl)

pub same_zeros : SameEntries (0 ∷ []) (0 ∷ 0 ∷ [])
same_zeros = same_cons 0 0 [] (0 ∷ []) refl (λ i. sym (same_zero i))

-- Any number of zeros.
pub same_replicate : (n : ℕ) → SameEntries (replicate n 0) []
same_replicate zero i = refl
same_replicate (suc n) zero = refl
same_replicate (suc n) (suc i) = same_replicate n i

-- The sum of two lists, one behind the other.
pub total-append : (xs ys : List ℕ) → total (xs ++ ys) ≡ total xs + total ys
total-append [] ys = omega arith
total-append (x ∷ xs) ys = omega (arith, total-append xs ys)

-- Zeros only.
pub total_zeros : (xs : List ℕ) → SameEntries xs [] → total xs ≡ 0
total_zeros [] h = refl
total_zeros (x ∷ xs) h = omega (arith, h 0, total_zeros xs (λ i. h (suc i)))

-- The sum is that of the entries, whatever zeros stand at the end.
pub total_same : (xs ys : List ℕ) → SameEntries xs ys → total xs ≡ total ys
total_same [] ys h = sym (total_zeros ys (λ i. sym (h i)))
total_same (x ∷ xs) [] h = total_zeros (x ∷ xs) h
total_same (x ∷ xs) (y ∷ ys) h = omega (arith, h 0, total_same xs ys (λ i. h (suc i)))

-- The entries from a place on, and their sum.
pub drop_same : (i : ℕ) (xs ys : List ℕ) → SameEntries xs ys → SameEntries (drop i xs) (drop i ys)
drop_same i xs ys h j = get_or-drop i xs j 0 ∙ h (i + j) ∙ sym (get_or-drop i ys j 0)

pub drop-total_same : (i : ℕ) (xs ys : List ℕ) → SameEntries xs ys → total (drop i xs) ≡ total (drop i ys)
drop-total_same i xs ys h = total_same (drop i xs) (drop i ys) (drop_same i xs ys h)

-- The sum from a place on is at least the entry there.
pub entry_total : (i : ℕ) (xs : List ℕ) → get_or xs i 0 ≤ total (drop i xs)
entry_total i [] = omega arith
entry_total zero (x ∷ xs) = omega arith
entry_total (suc i) (x ∷ xs) = entry_total i xs

-- It is at most the sum of all.
pub drop-total : (i : ℕ) (xs : List ℕ) → total (drop i xs) ≤ total xs
drop-total zero xs = omega arith
drop-total (suc i) [] = omega arith
drop-total (suc i) (x ∷ xs) = omega (arith, drop-total i xs)
