-- Letters that lower the length one after the other lead to the identity; their inverses, last taken first, are a
-- shortest word (000, lemma 3.1 and theorem 3.2).
--     Down w n   n letters that, put behind w, give the identity
-- Assumes nothing.
use mathlib.Core.Path.{◌≡◌, refl, sym, ◌∙◌, ap, subst}
use mathlib.Core.List.{[], ◌∷◌, ◌++◌, append_assoc, append-nil}
use mathlib.Core.Logic.{◌⊎◌, inl, inr}
use Prim.Native.Nat.{ℕ, zero, suc, ◌+◌, ◌≤◌}
use native.Mathlib.Omega.{arith}
use lib.ListN.{length, length-append}
use Rattle.group.specs.Letters.{Letter, Word, inverse_letter, inverse}
use Rattle.group.specs.Chains.{Joined}
use Rattle.group.specs.Products.{form_of}
use Rattle.group.proofs.Congruence.{≈_sym, ◌≈◌, ◌⟫◌, ≈_path, ≈_front, ≈_back, ≈→joined, joined→≈}
use Rattle.group.proofs.Inverses.{eight_pairs, cancel_behind}
use Rattle.group.proofs.Theorems.{forms↔joined}
use Rattle.lengths.specs.Weights.{form_length}
use Rattle.geodesics.proofs.WordLengths.{behind_by_one, behind_lowers, zero_length}

-- Letters put behind a word, as many as its length, that lead to the identity.
record Down (w : Word) (n : ℕ) : Type 0 where
  word : Word
  count : length word ≡ n
  ends : Joined (w ++ word) []

-- They are found one after the other.
lowered : (n : ℕ) (w : Word) → form_length (form_of w) ≡ n → Down w n
lowered zero w h = record {
  word = [];
  count = refl;
  ends = subst (λ (u : Word). Joined u []) (sym (append-nil w)) ((zero_length w).0 h);
}
lowered (suc n) w h = go (behind_lowers w) (λ x k. lowered n (w ++ (x ∷ [])) k)
  where
    more : (x : Letter) → Down (w ++ (x ∷ [])) n → Down w (suc n)
    more x d = record {
      word = x ∷ d.word;
      count = ap suc d.count;
      ends = subst (λ (u : Word). Joined u []) (append_assoc w (x ∷ []) d.word) d.ends;
    }

    go : (form_length (form_of w) ≡ 0)
        ⊎ ((x : Letter) × (form_length (form_of w) ≡ suc (form_length (form_of (w ++ (x ∷ []))))))
        → ((x : Letter) → form_length (form_of (w ++ (x ∷ []))) ≡ n → Down (w ++ (x ∷ [])) n) → Down w (suc n)
    go (inl k) next = absurd (omega arith)
    go (inr k) next = more k.0 (next k.0 (omega (arith, k.1)))

inverse-length : (w : Word) → length (inverse w) ≡ length w
inverse-length [] = refl
inverse-length (x ∷ w) = omega (arith, length-append (inverse w) (inverse_letter x ∷ []), inverse-length w)

-- The inverse of these letters is a word of the element.
behind-inverse : (w v : Word) → (w ++ v) ≈ [] → inverse v ≈ w
behind-inverse w v h =
    ≈_sym
    (≈_path (sym (append-nil w))
    ⟫ ≈_front w (≈_sym (cancel_behind eight_pairs v))
    ⟫ ≈_path (sym (append_assoc w v (inverse v)))
    ⟫ ≈_back h (inverse v))

-- A word with as many letters as the length.
pub shortest_word : (w : Word) → (u : Word) × Joined u w × (length u ≡ form_length (form_of w))
shortest_word w = go (lowered (form_length (form_of w)) w refl)
  where
    go : Down w (form_length (form_of w)) → (u : Word) × Joined u w × (length u ≡ form_length (form_of w))
    go d = (
      inverse d.word,
      ≈→joined (behind-inverse w d.word (joined→≈ d.ends)),
      inverse-length d.word ∙ d.count,
    )

-- Letters put behind a word raise its length by at most their number.
behind-most : (v w : Word) → form_length (form_of (w ++ v)) ≤ form_length (form_of w) + length v
behind-most [] w = omega (arith, ap (λ (u : Word). form_length (form_of u)) (append-nil w))
behind-most (x ∷ v) w = go (behind_by_one w x) (behind-most v (w ++ (x ∷ [])))
  where
    go : (form_length (form_of (w ++ (x ∷ []))) ≡ suc (form_length (form_of w)))
        ⊎ (form_length (form_of w) ≡ suc (form_length (form_of (w ++ (x ∷ [])))))
        → form_length (form_of ((w ++ (x ∷ [])) ++ v)) ≤ form_length (form_of (w ++ (x ∷ []))) + length v
        → form_length (form_of (w ++ (x ∷ v))) ≤ form_length (form_of w) + suc (length v)
    go (inl h) k = omega (arith, ap (λ (u : Word). form_length (form_of u)) (append_assoc w (x ∷ []) v))
    go (inr h) k = omega (arith, ap (λ (u : Word). form_length (form_of u)) (append_assoc w (x ∷ []) v))

-- No word of the element has fewer.
pub shortest_least : (u w : Word) → Joined u w → form_length (form_of w) ≤ length u
shortest_least u w j =
    omega (arith, behind-most u [], ap form_length ((forms↔joined u w).1 j))
