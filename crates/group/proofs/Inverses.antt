-- Inverses of words: laws of `inverse`, and a word with its inverse behind or in front of it cancels.
-- The congruence may be any one that has the four pairs x x⁻¹. Assumes nothing.
use mathlib.Core.Path.{◌≡◌, refl, sym, ◌∙◌, ap, ap₂, ◌≡⟨◌⟩◌, ◌∎}
use mathlib.Core.List.{[], ◌∷◌, ◌++◌, append_assoc, append-nil}
use Prim.Native.Nat.{ℕ, zero, suc}
use lib.ListN.{replicate}
use Rattle.lists.proofs.Copies.{replicate_past}
use Rattle.group.specs.Letters.{Letter, 'a, 'A, 'b, 'B, Word, inverse_letter, inverse}
use Rattle.group.specs.Chains.{Strings, Eight, pair_aA, pair_Aa, pair_bB, pair_Bb}
use Rattle.group.proofs.Congruence.{Congruent, ≈_refl, ≈_sym, ≈_cons, ≈_drop, ◌⟫◌, ≈_path, ≈_front, ≈_back}

pub inverse_letter_twice : (x : Letter) → inverse_letter (inverse_letter x) ≡ x
inverse_letter_twice 'a = refl
inverse_letter_twice 'A = refl
inverse_letter_twice 'b = refl
inverse_letter_twice 'B = refl

pub inverse-append : (u v : Word) → inverse (u ++ v) ≡ inverse v ++ inverse u
inverse-append [] v = sym (append-nil (inverse v))
inverse-append (x ∷ u) v =
    ap (λ (w : Word). w ++ (inverse_letter x ∷ [])) (inverse-append u v)
    ∙ append_assoc (inverse v) (inverse u) (inverse_letter x ∷ [])

pub inverse_twice : (w : Word) → inverse (inverse w) ≡ w
inverse_twice [] = refl
inverse_twice (x ∷ w) =
    inverse-append (inverse w) (inverse_letter x ∷ [])
    ∙ ap₂ (λ (y : Letter) (u : Word). y ∷ u) (inverse_letter_twice x) (inverse_twice w)

pub inverse-replicate : (n : ℕ) (x : Letter) → inverse (replicate n x) ≡ replicate n (inverse_letter x)
inverse-replicate zero x = refl
inverse-replicate (suc n) x =
    let y : Letter = inverse_letter x in
    inverse (replicate n x) ++ (y ∷ []) ≡⟨ ap (λ (w : Word). w ++ (y ∷ [])) (inverse-replicate n x) ⟩
    replicate n y ++ (y ∷ []) ≡⟨ replicate_past n y [] ⟩
    y ∷ (replicate n y ++ []) ≡⟨ ap (λ (w : Word). y ∷ w) (append-nil (replicate n y)) ⟩
    replicate (suc n) y ∎

-- The four pairs x x⁻¹ are among the strings.
abbrev pub HasPairs : Strings → Type 0
HasPairs R = (x : Letter) → R (x ∷ inverse_letter x ∷ [])

pub eight_pairs : HasPairs Eight
eight_pairs 'a = pair_aA
eight_pairs 'A = pair_Aa
eight_pairs 'b = pair_bB
eight_pairs 'B = pair_Bb

module _ {R : Strings} (pairs : HasPairs R) where
  -- x⁻¹ x cancels too.
  pub cancel_letter : (x : Letter) (t : Word) → Congruent R (inverse_letter x ∷ x ∷ t) t
  cancel_letter x t =
      ≈_path (ap (λ (y : Letter). inverse_letter x ∷ y ∷ t) (sym (inverse_letter_twice x)))
      ⟫ ≈_drop (pairs (inverse_letter x)) t

  pub cancel_behind : (w : Word) → Congruent R (w ++ inverse w) []
  cancel_behind [] = ≈_refl
  cancel_behind (x ∷ w) =
      ≈_cons x
      (≈_path (sym (append_assoc w (inverse w) (inverse_letter x ∷ [])))
      ⟫ ≈_back (cancel_behind w) (inverse_letter x ∷ []))
      ⟫ ≈_drop (pairs x) []

  pub cancel_front : (w t : Word) → Congruent R (inverse w ++ (w ++ t)) t
  cancel_front [] t = ≈_refl
  cancel_front (x ∷ w) t =
      ≈_path (append_assoc (inverse w) (inverse_letter x ∷ []) (x ∷ (w ++ t)))
      ⟫ ≈_front (inverse w) (cancel_letter x (w ++ t))
      ⟫ cancel_front w t

  pub inverse_cong : {u v : Word} → Congruent R u v → Congruent R (inverse u) (inverse v)
  inverse_cong {u} {v} h =
      ≈_path (sym (append-nil (inverse u)))
      ⟫ ≈_front (inverse u) (≈_sym (cancel_behind v) ⟫ ≈_back (≈_sym h) (inverse v))
      ⟫ cancel_front u (inverse v)
