-- Joined words have the same map, and the map of a form level by level. Assumes nothing.
use mathlib.Core.Path.{◌≡◌, refl, sym, ◌∙◌, ap, ◌≡⟨◌⟩◌, ◌∎}
use mathlib.Core.List.{[], ◌∷◌, ◌++◌, append-nil}
use Prim.Native.Nat.{ℕ, zero, suc}
use lib.ListN.{replicate}
use Rattle.group.specs.Letters.{Letter, 'a, 'A, 'b, 'B, Word, inverse}
use Rattle.group.specs.Chains.{relator1, relator2, Eight, pair_aA, pair_Aa, pair_bB, pair_Bb, first, second}
use Rattle.group.specs.Chains.{first_inverse, second_inverse}
use Rattle.group.specs.Forms.{Form, empty, level, letters}
use Rattle.group.proofs.Congruence.{◌≈◌, ≈_refl, ≈_sym, ≈_trans, ≈_cons, ≈_drop}
use Rattle.group.proofs.Shift.{σ}
use Rattle.group.proofs.Levels.{spell_levels, letters-levels}
use Rattle.group.proofs.Inner.{Inner, half, lower, upper, map_a, map_A, lift, letter_map, act, lift_id, lift_lift}
use Rattle.group.proofs.Inner.{lift_cong, lift_conjugate, letter_undo, act_append, act_undo}

-- The relators move no point, by their leading digits.
act_relator1 : (p : Inner) → act relator1 p ≡ p
act_relator1 half = refl
act_relator1 (lower half) = refl
act_relator1 (lower (lower p)) = refl
act_relator1 (lower (upper p)) = refl
act_relator1 (upper half) = refl
act_relator1 (upper (lower p)) = refl
act_relator1 (upper (upper half)) = refl
act_relator1 (upper (upper (lower half))) = refl
act_relator1 (upper (upper (lower (lower p)))) = refl
act_relator1 (upper (upper (lower (upper p)))) = refl
act_relator1 (upper (upper (upper p))) = refl

act_relator2 : (p : Inner) → act relator2 p ≡ p
act_relator2 half = refl
act_relator2 (lower half) = refl
act_relator2 (lower (lower p)) = refl
act_relator2 (lower (upper p)) = refl
act_relator2 (upper half) = refl
act_relator2 (upper (lower p)) = refl
act_relator2 (upper (upper half)) = refl
act_relator2 (upper (upper (lower p))) = refl
act_relator2 (upper (upper (upper half))) = refl
act_relator2 (upper (upper (upper (lower half)))) = refl
act_relator2 (upper (upper (upper (lower (lower p))))) = refl
act_relator2 (upper (upper (upper (lower (upper p))))) = refl
act_relator2 (upper (upper (upper (upper p)))) = refl

act_inverse : (r : Word) → ((p : Inner) → act r p ≡ p) → (p : Inner) → act (inverse r) p ≡ p
act_inverse r h p = sym (h (act (inverse r) p)) ∙ act_undo r p

act_eight : {r : Word} → Eight r → (p : Inner) → act r p ≡ p
act_eight pair_aA p = letter_undo 'a p
act_eight pair_Aa p = letter_undo 'A p
act_eight pair_bB p = letter_undo 'b p
act_eight pair_Bb p = letter_undo 'B p
act_eight first p = act_relator1 p
act_eight second p = act_relator2 p
act_eight first_inverse p = act_inverse relator1 act_relator1 p
act_eight second_inverse p = act_inverse relator2 act_relator2 p

pub act_cong : {u v : Word} → u ≈ v → (p : Inner) → act u p ≡ act v p
act_cong ≈_refl p = refl
act_cong (≈_sym h) p = sym (act_cong h p)
act_cong (≈_trans h k) p = act_cong h p ∙ act_cong k p
act_cong (≈_cons x h) p = ap (letter_map x) (act_cong h p)
act_cong (≈_drop {r} e t) p = act_append r t p ∙ act_eight e (act t p)

-- The shift of a word acts behind a leading digit 1.
act_σ : (w : Word) (p : Inner) → act (σ w) p ≡ lift (act w) p
act_σ [] p = sym (lift_id p)
act_σ ('a ∷ w) p = ap (lift map_a) (act_σ w p) ∙ lift_lift map_a (act w) p
act_σ ('A ∷ w) p = ap (lift map_A) (act_σ w p) ∙ lift_lift map_A (act w) p
act_σ ('b ∷ w) p =
    map_A (lift map_a (map_a (act (σ w) p))) ≡⟨ ap (λ q. map_A (lift map_a (map_a q))) (act_σ w p) ⟩
    map_A (lift map_a (map_a (lift (act w) p))) ≡⟨ lift_conjugate map_a (lift (act w) p) ⟩
    lift (lift map_a) (lift (act w) p) ≡⟨ lift_lift (lift map_a) (act w) p ⟩
    lift (act ('b ∷ w)) p ∎
act_σ ('B ∷ w) p =
    map_A (lift map_A (map_a (act (σ w) p))) ≡⟨ ap (λ q. map_A (lift map_A (map_a q))) (act_σ w p) ⟩
    map_A (lift map_A (map_a (lift (act w) p))) ≡⟨ lift_conjugate map_A (lift (act w) p) ⟩
    lift (lift map_A) (lift (act w) p) ≡⟨ lift_lift (lift map_A) (act w) p ⟩
    lift (act ('B ∷ w)) p ∎

-- A map, n times.
abbrev pub iter : (Inner → Inner) → ℕ → Inner → Inner
iter g zero p = p
iter g (suc n) p = g (iter g n p)

-- The map of a form, level by level: x0^b, the levels above behind a leading digit 1, x0^−a.
abbrev pub levels_map : Form → Inner → Inner
levels_map empty p = p
levels_map (level b a f) p = iter map_a b (lift (levels_map f) (iter map_A a p))

act_power : (x : Letter) (n : ℕ) (w : Word) (p : Inner) → act (replicate n x ++ w) p ≡ iter (letter_map x) n (act w p)
act_power x zero w p = refl
act_power x (suc n) w p = ap (letter_map x) (act_power x n w p)

act_power_alone : (x : Letter) (n : ℕ) (p : Inner) → act (replicate n x) p ≡ iter (letter_map x) n p
act_power_alone x n p = ap (λ (w : Word). act w p) (sym (append-nil (replicate n x))) ∙ act_power x n [] p

act_levels : (f : Form) (p : Inner) → act (spell_levels f) p ≡ levels_map f p
act_levels empty p = refl
act_levels (level b a f) p =
    let w : Word = spell_levels f in
    let v : Word = replicate a 'A in
    act (replicate b 'a ++ (σ w ++ v)) p ≡⟨ act_power 'a b (σ w ++ v) p ⟩
    iter map_a b (act (σ w ++ v) p) ≡⟨ ap (iter map_a b) (act_append (σ w) v p) ⟩
    iter map_a b (act (σ w) (act v p)) ≡⟨ ap (iter map_a b) (act_σ w (act v p)) ⟩
    iter map_a b (lift (act w) (act v p)) ≡⟨ ap (λ q. iter map_a b (lift (act w) q)) (act_power_alone 'A a p) ⟩
    iter map_a b (lift (act w) (iter map_A a p)) ≡⟨ ap (iter map_a b) (lift_cong (act_levels f) (iter map_A a p)) ⟩
    iter map_a b (lift (levels_map f) (iter map_A a p)) ∎

-- The map of a form's letters.
pub act_letters : (f : Form) (p : Inner) → act (letters f) p ≡ levels_map f p
act_letters f p = act_cong (letters-levels f) p ∙ act_levels f p
