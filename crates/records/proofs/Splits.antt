-- Lists taken apart at an element. Assumes nothing.
use mathlib.Core.Path.{◌≡◌, refl}
use mathlib.Core.List.{List, [], ◌∷◌, ◌++◌}
use mathlib.Core.Logic.{◌⊎◌, inl, inr}
use Prim.Native.Nat.{ℕ}
use native.Mathlib.Omega.{arith}

module _ {A : Type 0} where
  pub split_empty : (u v : List A) (d : A) → [] ≡ u ++ (d ∷ v) → ⊥
  split_empty [] v d h = let z : ◌≡◌ {A = ℕ} 0 1 = cc in omega arith
  split_empty (x ∷ u) v d h = let z : ◌≡◌ {A = ℕ} 0 1 = cc in omega arith

  pub last_same : (u w : List A) (e d : A) → u ++ (e ∷ []) ≡ w ++ (d ∷ []) → e ≡ d
  last_same [] [] e d h = cc
  last_same [] (y ∷ w) e d h = let rest : [] ≡ w ++ (d ∷ []) = cc in absurd (split_empty w [] d rest)
  last_same (x ∷ u) [] e d h = let rest : [] ≡ u ++ (e ∷ []) = cc in absurd (split_empty u [] e rest)
  last_same (x ∷ u) (y ∷ w) e d h = last_same u w e d (cc)

  -- An element of two lists one behind the other stands in the first or in the second.
  abbrev pub Split : (s t u v : List A) (d : A) → Type 0
  Split s t u v d = ((w : List A) × (s ≡ u ++ (d ∷ w))) ⊎ ((w : List A) × (u ≡ s ++ w) × (t ≡ w ++ (d ∷ v)))

  pub append_split : (s t u v : List A) (d : A) → s ++ t ≡ u ++ (d ∷ v) → Split s t u v d
  append_split [] t u v d h = inr (u, refl, h)
  append_split (x ∷ s) t [] v d h = inl (s, (cc))
  append_split (x ∷ s) t (y ∷ u) v d h = more (cc) (append_split s t u v d (cc))
    where
      more : x ≡ y → Split s t u v d → Split (x ∷ s) t (y ∷ u) v d
      more e (inl k) = let q : s ≡ u ++ (d ∷ k.0) = k.1 in inl (k.0, (cc))
      more e (inr k) = let q : u ≡ s ++ k.0 = k.1 in inr (k.0, (cc), k.2)
