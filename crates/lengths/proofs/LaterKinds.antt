-- The kinds of a list of classes, entry by entry: what the two tests of the later classes say.
--     IsInside cs n   entry n of the classes is that of an interior caret
-- Assumes nothing.
use mathlib.Core.Path.{◌≡◌, refl, sym, ap, subst}
use mathlib.Core.Bool.{Bool, true, false}
use mathlib.Core.List.{List, [], ◌∷◌}
use mathlib.Core.Logic.{◌↔◌, ◌⊎◌, inl, inr}
use Prim.Native.Nat.{ℕ, zero, suc, ◌≤◌}
use native.Mathlib.Omega.{arith}
use lib.Dec.{T}
use lib.ListN.{drop, length}
use Rattle.lists.specs.Entries.{At}
use Rattle.lengths.specs.Classes.{Class}
use Rattle.lengths.specs.Kinds.{inside, next_inside, either, some_inside_value, kind_of, later_kinds, kinds_of}

-- Entry n of the classes is that of an interior caret.
abbrev pub IsInside : List Class → ℕ → Type 0
IsInside cs n = (c : Class) × At cs n c × T (inside c)

-- The first test.
pub next_inside_lem : (cs : List Class) (n : ℕ) → T (next_inside (drop n cs)) ↔ IsInside cs n
next_inside_lem [] zero = ((λ h. absurd h), λ h. absurd h.1)
next_inside_lem [] (suc n) = ((λ h. absurd h), λ h. absurd h.1)
next_inside_lem (c ∷ cs) zero = ((λ h. (c, refl, h)), λ h. subst (λ (d : Class). T (inside d)) (sym h.1) h.2)
next_inside_lem (c ∷ cs) (suc n) = next_inside_lem cs n

-- One of two tests passes.
either_split : (p q : Bool) → T (either p q) → T p ⊎ T q
either_split true q h = inl tt
either_split false q h = inr h

either_first : (p q : Bool) → T p → T (either p q)
either_first true q h = tt
either_first false q h = absurd h

either_second : (p q : Bool) → T q → T (either p q)
either_second true q h = tt
either_second false q h = h

-- The second test.
some_found : (cs : List Class) (n : ℕ) → T (some_inside_value (drop n cs)) → (j : ℕ) × (n ≤ j) × IsInside cs j
some_found [] zero h = absurd h
some_found [] (suc n) h = absurd h
some_found (c ∷ cs) zero h = go (either_split (inside c) (some_inside_value cs) h) (some_found cs 0)
  where
    go : T (inside c) ⊎ T (some_inside_value cs) → (T (some_inside_value cs) → (j : ℕ) × (0 ≤ j) × IsInside cs j)
        → (j : ℕ) × (0 ≤ j) × IsInside (c ∷ cs) j
    go (inl p) later = (0, omega arith, (c, refl, p))
    go (inr p) later =
        let f = later p in
        (suc f.0, omega arith, f.2)
some_found (c ∷ cs) (suc n) h =
    let f = some_found cs n h in
    (suc f.0, omega (arith, f.1), f.2)

some_there : (cs : List Class) (n j : ℕ) → n ≤ j → IsInside cs j → T (some_inside_value (drop n cs))
some_there [] n j h i = absurd i.1
some_there (c ∷ cs) zero zero h i =
    either_first (inside c) (some_inside_value cs) (subst (λ (d : Class). T (inside d)) (sym i.1) i.2)
some_there (c ∷ cs) zero (suc j) h i = either_second (inside c) (some_inside_value cs) (some_there cs 0 j (omega arith) i)
some_there (c ∷ cs) (suc n) zero h i = absurd (omega arith)
some_there (c ∷ cs) (suc n) (suc j) h i = some_there cs n j (omega arith) i

pub some_inside_lem : (cs : List Class) (n : ℕ)
    → T (some_inside_value (drop n cs)) ↔ ((j : ℕ) × (n ≤ j) × IsInside cs j)
some_inside_lem cs n = (some_found cs n, λ f. some_there cs n f.0 f.1 f.2)

-- The kind at a number, from the class there and the classes behind it.
later_kind : (cs : List Class) (k : ℕ) (c : Class) → At cs k c
    → At (later_kinds cs) k (kind_of c (next_inside (drop (suc k) cs)) (some_inside_value (drop (suc k) cs)))
later_kind [] k c h = absurd h
later_kind (d ∷ cs) zero c h = ap (λ (e : Class). kind_of e (next_inside cs) (some_inside_value cs)) h
later_kind (d ∷ cs) (suc k) c h = later_kind cs k c h

pub kind_there : (cs : List Class) (k : ℕ) (c : Class) → At cs (suc k) c
    → At (kinds_of cs) (suc k) (kind_of c (next_inside (drop (suc (suc k)) cs)) (some_inside_value (drop (suc (suc k)) cs)))
kind_there [] k c h = absurd h
kind_there (d ∷ cs) k c h = later_kind cs k c h

-- One kind for each class.
later-length : (cs : List Class) → length (later_kinds cs) ≡ length cs
later-length [] = refl
later-length (c ∷ cs) = ap suc (later-length cs)

pub kinds-length : (cs : List Class) → length (kinds_of cs) ≡ length cs
kinds-length [] = refl
kinds-length (c ∷ cs) = ap suc (later-length cs)
