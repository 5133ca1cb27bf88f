-- The generators x_k through the shift: x_k is congruent to σ applied k times to a. Hence x_i⁻¹ x_j x_i = x_(j+1) for
-- all i below j (01, 'Letters and maps'; 000, section 2.1). Assumes nothing.
use mathlib.Core.Path.{◌≡◌, refl, sym, ◌∙◌, ap}
use mathlib.Core.List.{[], ◌∷◌, ◌++◌, append-nil}
use Prim.Native.Nat.{ℕ, zero, suc, ◌+◌, ◌-◌, ◌<◌}
use native.Mathlib.Omega.{arith}
use lib.ListN.{replicate}
use Rattle.lists.proofs.Copies.{replicate_past}
use Rattle.group.specs.Letters.{'a, 'A, Word, inverse}
use Rattle.group.specs.Chains.{pair_Aa, Joined}
use Rattle.group.specs.Forms.{generator}
use Rattle.group.proofs.Congruence.{◌≈◌, ≈_refl, ≈_sym, ≈_cons, ≈_drop, ◌⟫◌, ≈_path, ≈_front, ≈_append, ≈→joined}
use Rattle.group.proofs.Inverses.{eight_pairs, inverse_cong}
use Rattle.group.proofs.Shift.{σ, σ_append, σ_inverse, σ_cong, A-past, a_past}

-- The shift, k times.
abbrev pub σs : ℕ → Word → Word
σs zero w = w
σs (suc k) w = σs k (σ w)

pub σs_nil : (k : ℕ) → σs k [] ≡ []
σs_nil zero = refl
σs_nil (suc k) = σs_nil k

pub σs_append : (k : ℕ) (u v : Word) → σs k (u ++ v) ≡ σs k u ++ σs k v
σs_append zero u v = refl
σs_append (suc k) u v = ap (σs k) (σ_append u v) ∙ σs_append k (σ u) (σ v)

σs_inverse : (k : ℕ) (w : Word) → inverse (σs k w) ≡ σs k (inverse w)
σs_inverse zero w = refl
σs_inverse (suc k) w = σs_inverse k (σ w) ∙ ap (σs k) (sym (σ_inverse w))

σs_cong : (k : ℕ) {u v : Word} → u ≈ v → σs k u ≈ σs k v
σs_cong zero h = h
σs_cong (suc k) h = σs_cong k (σ_cong h)

pub σs_out : (k : ℕ) (w : Word) → σs k (σ w) ≡ σ (σs k w)
σs_out zero w = refl
σs_out (suc k) w = σs_out k (σ w)

σs_add : (i m k : ℕ) (w : Word) → k ≡ m + i → σs i (σs m w) ≡ σs k w
σs_add i zero k w e =
    let d : i ≡ k = omega arith in
    ap (λ (n : ℕ). σs n w) d
σs_add i (suc m) zero w e = absurd (omega arith)
σs_add i (suc m) (suc k) w e = σs_add i m k (σ w) (omega arith)

-- Conjugation by a power of x0 is as many shifts.
conjugate_σs : (k : ℕ) (g : Word) → (replicate k 'A ++ (σ g ++ replicate k 'a)) ≈ σs k (σ g)
conjugate_σs zero g = ≈_path (append-nil (σ g))
conjugate_σs (suc k) g =
    ≈_path (sym (replicate_past k 'A (σ g ++ ('a ∷ replicate k 'a))))
    ⟫ ≈_front (replicate k 'A)
    (≈_sym (A-past g ('a ∷ replicate k 'a)) ⟫ ≈_front (σ (σ g)) (≈_drop pair_Aa (replicate k 'a)))
    ⟫ conjugate_σs k (σ g)

pub generator_σs : (k : ℕ) → generator k ≈ σs k ('a ∷ [])
generator_σs zero = ≈_refl
generator_σs (suc k) = conjugate_σs k ('a ∷ [])

pub generator⁻¹_σs : (k : ℕ) → inverse (generator k) ≈ σs k ('A ∷ [])
generator⁻¹_σs k = inverse_cong eight_pairs (generator_σs k) ⟫ ≈_path (σs_inverse k ('a ∷ []))

-- A σ(g) a is σ(σ g).
conjugate_a : (g : Word) → ('A ∷ (σ g ++ ('a ∷ []))) ≈ σ (σ g)
conjugate_a g =
    ≈_cons 'A (a_past g []) ⟫ ≈_drop pair_Aa (σ (σ g) ++ []) ⟫ ≈_path (append-nil (σ (σ g)))

-- x_i⁻¹ x_j x_i, where j is i and m + 1 more.
conjugate_by : (i m j : ℕ) → j ≡ suc m + i → (inverse (generator i) ++ (generator j ++ generator i)) ≈ generator (suc j)
conjugate_by i m j e =
    ≈_append (generator⁻¹_σs i)
    (≈_append (generator_σs j ⟫ ≈_path (sym (σs_add i (suc m) j ('a ∷ []) e))) (generator_σs i)
    ⟫ ≈_path (sym (σs_append i (σs (suc m) ('a ∷ [])) ('a ∷ []))))
    ⟫ ≈_path (sym (σs_append i ('A ∷ []) (σs (suc m) ('a ∷ []) ++ ('a ∷ []))))
    ⟫ σs_cong i
    (≈_path (ap (λ (w : Word). 'A ∷ (w ++ ('a ∷ []))) (σs_out m ('a ∷ [])))
    ⟫ conjugate_a (σs m ('a ∷ []))
    ⟫ ≈_path (sym (σs_out m (σ ('a ∷ [])) ∙ ap σ (σs_out m ('a ∷ [])))))
    ⟫ ≈_path (σs_add i (suc (suc m)) (suc j) ('a ∷ []) (omega arith))
    ⟫ ≈_sym (generator_σs (suc j))

pub conjugate_≈ : (i j : ℕ) → i < j → (inverse (generator i) ++ (generator j ++ generator i)) ≈ generator (suc j)
conjugate_≈ i j h = conjugate_by i (j - suc i) j (omega arith)

pub conjugate_generator : (i j : ℕ) → i < j
    → Joined (inverse (generator i) ++ (generator j ++ generator i)) (generator (suc j))
conjugate_generator i j h = ≈→joined (conjugate_≈ i j h)
