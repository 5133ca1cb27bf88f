-- The points 0…01, and what a form's first level does to them: the map of a form gives b_0 − a_0, since its slope at 0
-- is 2^(a_0 − b_0) (000, section 2.4.2). Powers of the map of a. Assumes nothing.
use mathlib.Core.Path.{◌≡◌, refl, sym, ◌∙◌, ap, ◌≡⟨◌⟩◌, ◌∎}
use Prim.Native.Nat.{ℕ, zero, suc, ◌+◌}
use native.Mathlib.Omega.{arith}
use Rattle.group.specs.Forms.{Form, level}
use Rattle.group.proofs.Inner.{Inner, half, lower, map_a, map_A, lift, A-undoes-a}
use Rattle.group.proofs.Actions.{iter, levels_map}

-- The points 0^m 1.
abbrev pub zeros1 : ℕ → Inner
zeros1 zero = half
zeros1 (suc m) = lower (zeros1 m)

pub zeros1_injective : (m n : ℕ) → zeros1 m ≡ zeros1 n → m ≡ n
zeros1_injective zero zero e = refl
zeros1_injective zero (suc n) e = cc
zeros1_injective (suc m) zero e = cc
zeros1_injective (suc m) (suc n) e = ap suc (zeros1_injective m n (cc))

A-zeros1 : (k : ℕ) → map_A (zeros1 (suc k)) ≡ zeros1 k
A-zeros1 zero = refl
A-zeros1 (suc k) = refl

a_zeros1 : (k : ℕ) → map_a (zeros1 k) ≡ zeros1 (suc k)
a_zeros1 zero = refl
a_zeros1 (suc k) = refl

lift_zeros1 : (g : Inner → Inner) (k : ℕ) → lift g (zeros1 k) ≡ zeros1 k
lift_zeros1 g zero = refl
lift_zeros1 g (suc k) = refl

iter_A_zeros1 : (m n k : ℕ) → n ≡ m + k → iter map_A m (zeros1 n) ≡ zeros1 k
iter_A_zeros1 zero n k e =
    let d : n ≡ k = omega arith in
    ap zeros1 d
iter_A_zeros1 (suc m) n k e = ap map_A (iter_A_zeros1 m n (suc k) (omega arith)) ∙ A-zeros1 k

iter_a_zeros1 : (n k j : ℕ) → j ≡ n + k → iter map_a n (zeros1 k) ≡ zeros1 j
iter_a_zeros1 zero k j e =
    let d : k ≡ j = omega arith in
    ap zeros1 d
iter_a_zeros1 (suc n) k j e =
    let d : suc (n + k) ≡ j = omega arith in
    map_a (iter map_a n (zeros1 k)) ≡⟨ ap map_a (iter_a_zeros1 n k (n + k) refl) ⟩
    map_a (zeros1 (n + k)) ≡⟨ a_zeros1 (n + k) ⟩
    zeros1 (suc (n + k)) ≡⟨ ap zeros1 d ⟩
    zeros1 j ∎

-- A level takes 0^(a+k) 1 to 0^(b+k) 1.
pub form_zeros1 : (b a : ℕ) (f : Form) (k x y : ℕ) → x ≡ a + k → y ≡ b + k
    → levels_map (level b a f) (zeros1 x) ≡ zeros1 y
form_zeros1 b a f k x y e d =
    iter map_a b (lift (levels_map f) (iter map_A a (zeros1 x)))
    ≡⟨ ap (λ q. iter map_a b (lift (levels_map f) q)) (iter_A_zeros1 a x k e) ⟩
    iter map_a b (lift (levels_map f) (zeros1 k))
    ≡⟨ ap (iter map_a b) (lift_zeros1 (levels_map f) k) ⟩
    iter map_a b (zeros1 k)
    ≡⟨ iter_a_zeros1 b k y d ⟩
    zeros1 y ∎

-- So the map gives b − a: two levels with one map differ by one number on both sides.
pub slope : (b a c d : ℕ) (f g : Form) → ((p : Inner) → levels_map (level b a f) p ≡ levels_map (level c d g) p)
    → b + d ≡ c + a
slope b a c d f g h =
    zeros1_injective (b + d) (c + a)
    (zeros1 (b + d) ≡⟨ sym (form_zeros1 b a f d (a + d) (b + d) refl refl) ⟩
    levels_map (level b a f) (zeros1 (a + d)) ≡⟨ h (zeros1 (a + d)) ⟩
    levels_map (level c d g) (zeros1 (a + d)) ≡⟨ form_zeros1 c d g a (a + d) (c + a) (omega arith) refl ⟩
    zeros1 (c + a) ∎)

-- Powers of a map.
iter_out : (g : Inner → Inner) (n : ℕ) (p : Inner) → iter g n (g p) ≡ g (iter g n p)
iter_out g zero p = refl
iter_out g (suc n) p = ap g (iter_out g n p)

pub iter_add : (g : Inner → Inner) (n d k : ℕ) (p : Inner) → k ≡ n + d → iter g k p ≡ iter g n (iter g d p)
iter_add g zero d k p e =
    let c : k ≡ d = omega arith in
    ap (λ j. iter g j p) c
iter_add g (suc n) d k p e =
    let c : k ≡ suc (n + d) = omega arith in
    ap (λ j. iter g j p) c ∙ ap g (iter_add g n d (n + d) p refl)

pub iter_undo : (n : ℕ) (p : Inner) → iter map_A n (iter map_a n p) ≡ p
iter_undo zero p = refl
iter_undo (suc n) p =
    map_A (iter map_A n (map_a (iter map_a n p))) ≡⟨ sym (iter_out map_A n (map_a (iter map_a n p))) ⟩
    iter map_A n (map_A (map_a (iter map_a n p))) ≡⟨ ap (iter map_A n) (A-undoes-a (iter map_a n p)) ⟩
    iter map_A n (iter map_a n p) ≡⟨ iter_undo n p ⟩
    p ∎

pub iter_injective : (n : ℕ) (p q : Inner) → iter map_a n p ≡ iter map_a n q → p ≡ q
iter_injective n p q e =
    p ≡⟨ sym (iter_undo n p) ⟩
    iter map_A n (iter map_a n p) ≡⟨ ap (iter map_A n) e ⟩
    iter map_A n (iter map_a n q) ≡⟨ iter_undo n q ⟩
    q ∎
