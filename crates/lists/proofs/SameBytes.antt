-- `same_bytes` says whether two lists are the same. Assumes nothing.
use mathlib.Core.Path.{◌≡◌, refl, ◌∙◌, ap, ap₂}
use mathlib.Core.Bool.{Bool, true, false, cond}
use mathlib.Core.List.{List, [], ◌∷◌}
use Prim.Native.Nat.{ℕ}
use native.Mathlib.Omega.{arith}
use lib.Dec.{eqb}
use borrow.Author.Tests.{eqb-true, eq-eqb}
use Rattle.lists.specs.SameBytes.{same_bytes}

-- Lists that are found to be the same are equal, and equal lists are found to be the same.
pub same_bytes_lem : (s t : List ℕ) → same_bytes s t ≡ true → s ≡ t
unfolding same_bytes
same_bytes_lem [] [] h = refl
same_bytes_lem [] (y ∷ t) h = let z : ◌≡◌ {A = ℕ} 0 1 = cc in absurd (omega arith)
same_bytes_lem (x ∷ s) [] h = let z : ◌≡◌ {A = ℕ} 0 1 = cc in absurd (omega arith)
same_bytes_lem (x ∷ s) (y ∷ t) h = go (eqb x y) refl h (same_bytes_lem s t)
  where
    go : (p : Bool) → eqb x y ≡ p → cond p (same_bytes s t) false ≡ true → (same_bytes s t ≡ true → s ≡ t)
        → x ∷ s ≡ y ∷ t
    go true e k later = ap₂ (λ (u : ℕ) (l : List ℕ). u ∷ l) (eqb-true x y e) (later k)
    go false e k later = let z : ◌≡◌ {A = ℕ} 0 1 = cc in absurd (omega arith)

pub bytes_same : (s : List ℕ) → same_bytes s s ≡ true
unfolding same_bytes
bytes_same [] = refl
bytes_same (x ∷ s) = ap (λ (p : Bool). cond p (same_bytes s s) false) (eq-eqb x x refl) ∙ bytes_same s
