-- Fordham's table is symmetric; its entries are at most 4, and at most 2 and 1 more for each caret that is interior.
-- Each by one computed test of all pairs of kinds. Assumes nothing.
use mathlib.Core.Path.{◌≡◌, refl, ap, ap₂, subst}
use mathlib.Core.Bool.{Bool, true, false, cond}
use mathlib.Core.List.{[], ◌∷◌}
use Prim.Native.Nat.{ℕ, ◌+◌, ◌<◌, ◌≤◌}
use native.Mathlib.Omega.{arith}
use lib.Dec.{T, eqb, leb, eqb→eq, leb→le, lit<}
use lib.ListN.{get_or}
use Rattle.lists.proofs.Tests.{all, all_at}
use Rattle.lengths.specs.Classes.{Class, on_left, on_right, inside_leaf, inside_caret}
use Rattle.lengths.specs.Kinds.{Kind, L0, LL, RI, RN, R0, I0, IR, inside, kind_of}
use Rattle.lengths.specs.Weights.{weight}

-- The seven kinds by their numbers, and the number of each.
abbrev pub numbered : ℕ → Kind
numbered i = get_or (L0 ∷ LL ∷ RI ∷ RN ∷ R0 ∷ I0 ∷ IR ∷ []) i L0

number : (x : Kind) → (i : ℕ) × (i < 7) × (numbered i ≡ x)
number L0 = (0, lit< tt, refl)
number LL = (1, lit< tt, refl)
number RI = (2, lit< tt, refl)
number RN = (3, lit< tt, refl)
number R0 = (4, lit< tt, refl)
number I0 = (5, lit< tt, refl)
number IR = (6, lit< tt, refl)

-- A test of two kinds that passes at all pairs of numbers passes at all pairs of kinds.
pub all_kinds : (f : Kind → Kind → Bool) → T (all 7 (λ i. all 7 (λ j. f (numbered i) (numbered j))))
    → (x y : Kind) → T (f x y)
all_kinds f h x y =
    let p = number x in
    let q = number y in
    let row = all_at 7 (λ i. all 7 (λ j. f (numbered i) (numbered j))) h p.0 p.1 in
    let entry = all_at 7 (λ j. f (numbered p.0) (numbered j)) row q.0 q.1 in
    subst (λ (b : Bool). T b) (ap₂ f p.2 q.2) entry

-- A pair weighs as much as the pair turned round.
pub weight_symmetric : (x y : Kind) → weight x y ≡ weight y x
weight_symmetric x y =
    eqb→eq (weight x y) (weight y x) (all_kinds (λ x y. eqb (weight x y) (weight y x)) tt x y)

-- No pair weighs more than 4.
pub weight-most : (x y : Kind) → weight x y ≤ 4
weight-most x y = leb→le (weight x y) 4 (all_kinds (λ x y. leb (weight x y) 4) tt x y)

-- 1 for an interior caret and 0 for another, by its kind and by its class.
abbrev interior_kind : Kind → ℕ
interior_kind L0 = 0
interior_kind LL = 0
interior_kind RI = 0
interior_kind RN = 0
interior_kind R0 = 0
interior_kind I0 = 1
interior_kind IR = 1

abbrev pub interior : Class → ℕ
interior c = cond (inside c) 1 0

kind_interior : (c : Class) (next later : Bool) → interior_kind (kind_of c next later) ≡ interior c
kind_interior on_left next later = refl
kind_interior on_right true later = refl
kind_interior on_right false true = refl
kind_interior on_right false false = refl
kind_interior inside_leaf next later = refl
kind_interior inside_caret next later = refl

pub interior_none : (c : Class) → inside c ≡ false → interior c ≡ 0
interior_none c h = ap (λ (b : Bool). cond b 1 0) h

pub interior_most : (c : Class) → interior c ≤ 1
interior_most on_left = omega arith
interior_most on_right = omega arith
interior_most inside_leaf = omega arith
interior_most inside_caret = omega arith

-- A pair weighs at most 2, and 1 more for each of its carets that is interior.
kinds_interior : (x y : Kind) → weight x y ≤ 2 + (interior_kind x + interior_kind y)
kinds_interior x y =
    leb→le (weight x y) (2 + (interior_kind x + interior_kind y))
    (all_kinds (λ x y. leb (weight x y) (2 + (interior_kind x + interior_kind y))) tt x y)

pub weight_interior : (c d : Class) (m k n l : Bool)
    → weight (kind_of c m k) (kind_of d n l) ≤ 2 + (interior c + interior d)
weight_interior c d m k n l =
    omega (arith, kinds_interior (kind_of c m k) (kind_of d n l), kind_interior c m k, kind_interior d n l)
