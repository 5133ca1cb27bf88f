-- The shift of words, σ: a to b and b to Aba, so that σ takes x_k to x_(k+1). It respects the congruence, and a shifted
-- word is shifted once more by conjugation with a: σ(σ g) = A σ(g) a. The relators of 01 say x1⁻¹x2x1 = x3 and
-- x1⁻¹x3x1 = x4 (000, presentation 1); what σ makes of them also needs x1⁻¹x4x1 = x5, which follows. Assumes nothing.
use mathlib.Core.Path.{◌≡◌, refl, sym, ap, ◌≡⟨◌⟩◌, ◌∎}
use mathlib.Core.List.{[], ◌∷◌, ◌++◌}
use Rattle.group.specs.Letters.{Letter, 'a, 'A, 'b, 'B, Word, inverse}
use Rattle.group.specs.Chains.{relator1, relator2, Eight, pair_aA, pair_Aa, pair_bB, pair_Bb, first, second}
use Rattle.group.specs.Chains.{first_inverse, second_inverse}
use Rattle.group.proofs.Congruence.{◌≈◌, ≈_refl, ≈_sym, ≈_trans, ≈_cons, ≈_drop, ◌⟫◌, ≈_path, ≈_front, ≈_back}
use Rattle.group.proofs.Inverses.{inverse-append, inverse_cong, eight_pairs}
use Rattle.group.proofs.FreeReduction.{word, free, via}

-- The shift.
abbrev pub σ : Word → Word
σ [] = []
σ ('a ∷ w) = 'b ∷ σ w
σ ('A ∷ w) = 'B ∷ σ w
σ ('b ∷ w) = 'A ∷ 'b ∷ 'a ∷ σ w
σ ('B ∷ w) = 'A ∷ 'B ∷ 'a ∷ σ w

pub σ_append : (u v : Word) → σ (u ++ v) ≡ σ u ++ σ v
σ_append [] v = refl
σ_append ('a ∷ u) v = ap (λ (w : Word). 'b ∷ w) (σ_append u v)
σ_append ('A ∷ u) v = ap (λ (w : Word). 'B ∷ w) (σ_append u v)
σ_append ('b ∷ u) v = ap (λ (w : Word). 'A ∷ 'b ∷ 'a ∷ w) (σ_append u v)
σ_append ('B ∷ u) v = ap (λ (w : Word). 'A ∷ 'B ∷ 'a ∷ w) (σ_append u v)

σ_inverse_letter : (x : Letter) → σ (inverse (x ∷ [])) ≡ inverse (σ (x ∷ []))
σ_inverse_letter 'a = refl
σ_inverse_letter 'A = refl
σ_inverse_letter 'b = refl
σ_inverse_letter 'B = refl

pub σ_inverse : (w : Word) → σ (inverse w) ≡ inverse (σ w)
σ_inverse [] = refl
σ_inverse (x ∷ w) =
    σ (inverse w ++ inverse (x ∷ [])) ≡⟨ σ_append (inverse w) (inverse (x ∷ [])) ⟩
    σ (inverse w) ++ σ (inverse (x ∷ [])) ≡⟨ ap (λ (u : Word). u ++ σ (inverse (x ∷ []))) (σ_inverse w) ⟩
    inverse (σ w) ++ σ (inverse (x ∷ [])) ≡⟨ ap (λ (u : Word). inverse (σ w) ++ u) (σ_inverse_letter x) ⟩
    inverse (σ w) ++ inverse (σ (x ∷ [])) ≡⟨ sym (inverse-append (σ (x ∷ [])) (σ w)) ⟩
    inverse (σ (x ∷ []) ++ σ w) ≡⟨ ap inverse (sym (σ_append (x ∷ []) w)) ⟩
    inverse (σ (x ∷ w)) ∎

-- x_j x_1 = x_1 x_(j+1) for j = 2, 3, 4, and the same of inverses for j = 2, 3.
x2_past_x1 : word "Abab" ≈ word "bAAbaa"
x2_past_x1 = via eight_pairs "Abab" "bAAbaa" "bA" "Abaa" (≈_drop first []) refl refl

x3_past_x1 : word "AAbaab" ≈ word "bAAAbaaa"
x3_past_x1 = via eight_pairs "AAbaab" "bAAAbaaa" "bA" "AAbaaa" (≈_drop second []) refl refl

x2⁻¹_past_x1 : word "ABab" ≈ word "bAABaa"
x2⁻¹_past_x1 = via eight_pairs "ABab" "bAABaa" "bAABa" "a" (≈_drop first_inverse []) refl refl

x3⁻¹_past_x1 : word "AABaab" ≈ word "bAAABaaa"
x3⁻¹_past_x1 = via eight_pairs "AABaab" "bAAABaaa" "bAAABaa" "a" (≈_drop second_inverse []) refl refl

-- x4 is x2⁻¹ x3 x2.
x4_past_x1 : word "AAAbaaab" ≈ word "bAAAAbaaaa"
x4_past_x1 =
    via eight_pairs "AAAbaaab" "ABAbabab" "AB" "ab" (≈_sym x2_past_x1) refl refl
    ⟫ via eight_pairs "ABAbabab" "ABAbaabAAbaa" "ABaAAbaa" "" x2_past_x1 refl refl
    ⟫ via eight_pairs "ABAbaabAAbaa" "ABabAAAbabaa" "ABa" "AAbaa" x3_past_x1 refl refl
    ⟫ via eight_pairs "ABabAAAbabaa" "bAABAbabaa" "" "AAAbabaa" x2⁻¹_past_x1 refl refl
    ⟫ via eight_pairs "bAABAbabaa" "bAAAAbaaaa" "bAAB" "aa" x2_past_x1 refl refl

-- x2⁻¹ x3 x2 = x4, the first relator shifted.
σ_relator1 : σ relator1 ≈ []
σ_relator1 =
    via eight_pairs "bABaBAbabAbaBBABab" "bABAbabaBBABab" "bABaB" "AbaBBABab" x2_past_x1 refl refl
    ⟫ via eight_pairs "bABAbabaBBABab" "bABAbabaBAABaa" "bABAbabaBB" "" x2⁻¹_past_x1 refl refl
    ⟫ via eight_pairs "bABAbabaBAABaa" "bAAAbaaaBAABaa" "bAB" "aBAABaa" x2_past_x1 refl refl
    ⟫ via eight_pairs "bAAAbaaaBAABaa" "" "" "BAABaa" (≈_sym x3_past_x1) refl refl

-- x2⁻¹ x4 x2 = x5, the second relator shifted.
σ_relator2 : σ relator2 ≈ []
σ_relator2 =
    via eight_pairs "bABaBBAbabbAbaBBBABabb" "bABaBAAbaabAbaBBBABabb" "bABaBB" "bAbaBBBABabb" x2_past_x1 refl refl
    ⟫ via eight_pairs "bABaBAAbaabAbaBBBABabb" "bABAAbaabaBBBABabb" "bABaB" "AbaBBBABabb" x3_past_x1 refl refl
    ⟫ via eight_pairs "bABAAbaabaBBBABabb" "bAAAAbaaaaBBBABabb" "bAB" "aBBBABabb" x3_past_x1 refl refl
    ⟫ via eight_pairs "bAAAAbaaaaBBBABabb" "bAAAAbaaaaBBAABaab" "bAAAAbaaaaBBB" "b" x2⁻¹_past_x1 refl refl
    ⟫ via eight_pairs "bAAAAbaaaaBBAABaab" "bAAAAbaaaaBAAABaaa" "bAAAAbaaaaBB" "" x3⁻¹_past_x1 refl refl
    ⟫ via eight_pairs "bAAAAbaaaaBAAABaaa" "" "" "BAAABaaa" (≈_sym x4_past_x1) refl refl

σ_eight : {r : Word} → Eight r → σ r ≈ []
σ_eight pair_aA = free eight_pairs (word "bB") [] refl
σ_eight pair_Aa = free eight_pairs (word "Bb") [] refl
σ_eight pair_bB = free eight_pairs (word "AbaABa") [] refl
σ_eight pair_Bb = free eight_pairs (word "ABaAba") [] refl
σ_eight first = σ_relator1
σ_eight second = σ_relator2
σ_eight first_inverse = ≈_path (σ_inverse relator1) ⟫ inverse_cong eight_pairs σ_relator1
σ_eight second_inverse = ≈_path (σ_inverse relator2) ⟫ inverse_cong eight_pairs σ_relator2

pub σ_cong : {u v : Word} → u ≈ v → σ u ≈ σ v
σ_cong ≈_refl = ≈_refl
σ_cong (≈_sym h) = ≈_sym (σ_cong h)
σ_cong (≈_trans h k) = ≈_trans (σ_cong h) (σ_cong k)
σ_cong (≈_cons x {u} {v} h) =
    ≈_path (σ_append (x ∷ []) u) ⟫ ≈_front (σ (x ∷ [])) (σ_cong h) ⟫ ≈_path (sym (σ_append (x ∷ []) v))
σ_cong (≈_drop {r} e t) = ≈_path (σ_append r t) ⟫ ≈_back (σ_eight e) (σ t)

-- A passes σ(σ g) and leaves σ g.
pub A-past : (g t : Word) → (σ (σ g) ++ ('A ∷ t)) ≈ ('A ∷ (σ g ++ t))
A-past [] t = ≈_refl
A-past ('a ∷ g) t = ≈_front (word "Aba") (A-past g t) ⟫ ≈_front (word "Ab") (≈_drop pair_aA (σ g ++ t))
A-past ('A ∷ g) t = ≈_front (word "ABa") (A-past g t) ⟫ ≈_front (word "AB") (≈_drop pair_aA (σ g ++ t))
A-past ('b ∷ g) t =
    ≈_front (word "BAbab") (A-past g t)
    ⟫ ≈_back (via eight_pairs "BAbabA" "AAba" "B" "A" x2_past_x1 refl refl) (σ g ++ t)
A-past ('B ∷ g) t =
    ≈_front (word "BABab") (A-past g t)
    ⟫ ≈_back (via eight_pairs "BABabA" "AABa" "B" "A" x2⁻¹_past_x1 refl refl) (σ g ++ t)

-- And σ g passes a as σ(σ g).
pub a_past : (g t : Word) → (σ g ++ ('a ∷ t)) ≈ ('a ∷ (σ (σ g) ++ t))
a_past g t =
    ≈_sym (≈_drop pair_aA (σ g ++ ('a ∷ t)))
    ⟫ ≈_cons 'a (≈_sym (A-past g ('a ∷ t)) ⟫ ≈_front (σ (σ g)) (≈_drop pair_Aa t))
