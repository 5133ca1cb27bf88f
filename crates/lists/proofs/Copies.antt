-- Laws of `replicate` and `copies`. Assumes nothing.
use mathlib.Core.Path.{◌≡◌, refl, sym, ◌∙◌, ap}
use mathlib.Core.List.{List, [], ◌∷◌, ◌++◌, append_assoc, append-nil}
use Prim.Native.Nat.{ℕ, zero, suc}
use lib.ListN.{replicate}
use Rattle.lists.specs.Copies.{copies}

-- One more of an element, in front of `n` of them or behind.
pub replicate_past {ℓ} : {A : Type ℓ} (n : ℕ) (x : A) (t : List A) → replicate n x ++ (x ∷ t) ≡ x ∷ (replicate n x ++ t)
replicate_past zero x t = refl
replicate_past (suc n) x t = ap (λ s. x ∷ s) (replicate_past n x t)

-- One more of a list, behind its copies or in front of them.
pub copies_past {ℓ} : {A : Type ℓ} (n : ℕ) (s : List A) → copies n s ++ s ≡ s ++ copies n s
copies_past zero s = sym (append-nil s)
copies_past (suc n) s = append_assoc s (copies n s) s ∙ ap (λ t. s ++ t) (copies_past n s)

-- Copies of one element.
pub copies-single {ℓ} : {A : Type ℓ} (n : ℕ) (x : A) → copies n (x ∷ []) ≡ replicate n x
copies-single zero x = refl
copies-single (suc n) x = ap (λ s. x ∷ s) (copies-single n x)
