-- Laws of `At`: the entries of two lists, one behind the other; which numbers have an entry, and which; the entries of
-- a list of values. Assumes nothing.
use mathlib.Core.Path.{◌≡◌, refl, sym, ◌∙◌, ap, ap₂, subst}
use mathlib.Core.List.{List, [], ◌∷◌, ◌++◌, map}
use mathlib.Core.Logic.{◌⊎◌, inl, inr, ◌↔◌}
use Prim.Native.Nat.{ℕ, zero, suc, ◌+◌, ◌<◌}
use native.Mathlib.Omega.{arith}
use native.Mathlib.Nat.{not-suc-le-zero, le_of_suc-le-suc}
use lib.ListN.{length, get_or}
use Rattle.lists.specs.Entries.{At}

-- An entry of the first list.
pub at_first : {A : Type 0} (xs ys : List A) (k : ℕ) (x : A) → At xs k x → At (xs ++ ys) k x
at_first [] ys k x h = absurd h
at_first (y ∷ xs) ys zero x h = h
at_first (y ∷ xs) ys (suc k) x h = at_first xs ys k x h

-- An entry of the second list, numbered behind the first.
pub at_second : {A : Type 0} (xs ys : List A) (k j : ℕ) (x : A) → k ≡ length xs + j → At ys j x → At (xs ++ ys) k x
at_second [] ys k j x e h =
    let d : j ≡ k = omega arith in
    subst (λ (n : ℕ). At ys n x) d h
at_second (y ∷ xs) ys zero j x e h = absurd (omega arith)
at_second (y ∷ xs) ys (suc k) j x e h = at_second xs ys k j x (omega arith) h

-- An entry of two lists is one of the first or one of the second.
pub at_split : {A : Type 0} (xs ys : List A) (k : ℕ) (x : A) → At (xs ++ ys) k x
    → At xs k x ⊎ ((j : ℕ) × (k ≡ length xs + j) × At ys j x)
at_split [] ys k x h = inr (k, omega arith, h)
at_split (y ∷ xs) ys zero x h = inl h
at_split (y ∷ xs) ys (suc k) x h = go (at_split xs ys k x h)
  where
    go : At xs k x ⊎ ((j : ℕ) × (k ≡ length xs + j) × At ys j x)
        → At xs k x ⊎ ((j : ℕ) × (suc k ≡ suc (length xs) + j) × At ys j x)
    go (inl p) = inl p
    go (inr p) = inr (p.0, omega (arith, p.1), p.2)

-- A number of an entry is below the length.
pub at_bound : {A : Type 0} (xs : List A) (k : ℕ) (x : A) → At xs k x → k < length xs
at_bound [] k x h = absurd h
at_bound (y ∷ xs) zero x h = omega arith
at_bound (y ∷ xs) (suc k) x h = omega (arith, at_bound xs k x h)

-- Each number below the length has an entry.
pub at_exists : {A : Type 0} (xs : List A) (k : ℕ) → k < length xs → (x : A) × At xs k x
at_exists [] k h = absurd (not-suc-le-zero h)
at_exists (y ∷ xs) zero h = (y, refl)
at_exists (y ∷ xs) (suc k) h = at_exists xs k (le_of_suc-le-suc h)

-- It has only one.
pub at_same : {A : Type 0} (xs : List A) (k : ℕ) (x y : A) → At xs k x → At xs k y → x ≡ y
at_same [] k x y h g = absurd h
at_same (z ∷ xs) zero x y h g = sym h ∙ g
at_same (z ∷ xs) (suc k) x y h g = at_same xs k x y h g

-- The entry that is read at its number.
pub at_get_d : {A : Type 0} (xs : List A) (k : ℕ) (x other : A) → At xs k x → get_or xs k other ≡ x
at_get_d [] k x other h = absurd h
at_get_d (y ∷ xs) zero x other h = h
at_get_d (y ∷ xs) (suc k) x other h = at_get_d xs k x other h

-- An entry of the list of a function's values.
pub at_map : {A B : Type 0} (f : A → B) (xs : List A) (k : ℕ) (x : A) → At xs k x → At (map f xs) k (f x)
at_map f [] k x h = absurd h
at_map f (y ∷ xs) zero x h = ap f h
at_map f (y ∷ xs) (suc k) x h = at_map f xs k x h

-- Lists with the same entries are equal.
pub at_same_list : {A : Type 0} (xs ys : List A) → ((k : ℕ) (x : A) → At xs k x ↔ At ys k x) → xs ≡ ys
at_same_list [] [] h = refl
at_same_list [] (y ∷ ys) h = absurd ((h 0 y).1 refl)
at_same_list (x ∷ xs) [] h = absurd ((h 0 x).0 refl)
at_same_list (x ∷ xs) (y ∷ ys) h =
    ap₂ (λ a b. a ∷ b) (sym ((h 0 x).0 refl)) (at_same_list xs ys (λ k z. h (suc k) z))
