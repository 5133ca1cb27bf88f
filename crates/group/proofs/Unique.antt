-- Reduced forms with one map have the same exponents (000, section 2.4.2). The map gives b_0 − a_0, so the larger first
-- level exceeds the other by one number d on both sides. Cancel the smaller powers: if d is above 0, the map of the
-- levels above the larger one fixes every point that begins with 0. A reduced form with such a map has (0, 0) for its
-- first level, and that breaks the clause one level below. Assumes nothing.
use mathlib.Core.Path.{◌≡◌, refl, sym, ◌∙◌, ap, subst, ◌≡⟨◌⟩◌, ◌∎}
use mathlib.Core.Logic.{inl, inr}
use Prim.Native.Nat.{ℕ, zero, suc, ◌+◌, ◌-◌, ◌<◌, ◌≤◌}
use native.Mathlib.Omega.{arith}
use native.Mathlib.Decide.{dec_le}
use Rattle.group.specs.Forms.{Side, b_side, a_side, Form, empty, level, on_side, exponent, SameExponents}
use Rattle.group.specs.Reducing.{Occurs, Reduced}
use Rattle.group.proofs.Exponents.{same_level}
use Rattle.group.proofs.Inner.{Inner, lower, upper, map_a, map_A, lift}
use Rattle.group.proofs.Actions.{iter, levels_map}
use Rattle.group.proofs.Slope.{zeros1, zeros1_injective, form_zeros1, slope, iter_add, iter_undo, iter_injective}

upper_injective : (p q : Inner) → upper p ≡ upper q → p ≡ q
upper_injective p q e = cc

-- a, e + 1 times, takes 10t to a point that begins with 0.
into_lower : (e : ℕ) (t : Inner) → (x : Inner) × (iter map_a (suc e) (upper (lower t)) ≡ lower x)
into_lower zero t = (upper t, refl)
into_lower (suc e) t = let r = into_lower e t in (lower r.0, ap map_a r.1)

-- If x0^(e+1), g behind a 1, x0^−(e+1) fixes every 0t, then so does g.
inner_fixes : (e : ℕ) (g : Inner → Inner)
    → ((t : Inner) → iter map_a (suc e) (lift g (iter map_A (suc e) (lower t))) ≡ lower t)
    → (t : Inner) → g (lower t) ≡ lower t
inner_fixes e g h t =
    let r = into_lower e t in
    let back : iter map_A (suc e) (lower r.0) ≡ upper (lower t) =
    ap (iter map_A (suc e)) (sym r.1) ∙ iter_undo (suc e) (upper (lower t)) in
    upper_injective (g (lower t)) (lower t)
    (iter_injective (suc e) (lift g (upper (lower t))) (upper (lower t))
    (iter map_a (suc e) (lift g (upper (lower t)))
    ≡⟨ ap (λ q. iter map_a (suc e) (lift g q)) (sym back) ⟩
    iter map_a (suc e) (lift g (iter map_A (suc e) (lower r.0)))
    ≡⟨ h r.0 ⟩
    lower r.0
    ≡⟨ sym r.1 ⟩
    iter map_a (suc e) (upper (lower t)) ∎))

-- The clause at a level with both exponents above 0 does not bear (0, 0) above it.
clause_broken : (g : Form) → Occurs g 0 → ((s : Side) → exponent s g 0 ≡ 0) → ⊥
clause_broken g (inl k) z = omega (arith, z a_side)
clause_broken g (inr k) z = omega (arith, z b_side)

-- A reduced form that fixes every 0t has (0, 0) for its first level.
fixes_lower : (f : Form) → Reduced f → ((t : Inner) → levels_map f (lower t) ≡ lower t) → (s : Side) → exponent s f 0 ≡ 0
fixes_lower empty r h s = refl
fixes_lower (level b a g) r h s = go b a (r 0) h same (fixes_lower g (λ i. r (suc i))) s
  where
    same : a ≡ b
    same =
        let e : suc a ≡ suc b =
        zeros1_injective (suc a) (suc b)
        (sym (h (zeros1 a)) ∙ form_zeros1 b a g 1 (suc a) (suc b) (omega arith) (omega arith)) in
        omega arith

    go : (x y : ℕ) → (0 < y → 0 < x → Occurs g 0)
        → ((t : Inner) → levels_map (level x y g) (lower t) ≡ lower t) → y ≡ x
        → (((t : Inner) → levels_map g (lower t) ≡ lower t) → (u : Side) → exponent u g 0 ≡ 0)
        → (u : Side) → on_side u x y ≡ 0
    go zero y c k e ih b_side = refl
    go zero y c k e ih a_side = e
    go (suc x) zero c k e ih u = absurd (omega arith)
    go (suc x) (suc y) c k e ih u =
        let d : y ≡ x = omega arith in
        absurd
        (clause_broken g (c (omega arith) (omega arith))
        (ih
        (inner_fixes x (levels_map g)
        (subst (λ (v : ℕ). (t : Inner) → levels_map (level (suc x) (suc v) g) (lower t) ≡ lower t) d k))))

-- A reduced form that fixes every point has no exponent above 0.
fixes_all : (f : Form) → Reduced f → ((p : Inner) → levels_map f p ≡ p) → SameExponents f empty
fixes_all empty r h = λ s i. refl
fixes_all (level b a f) r h = go b a (fixes_lower (level b a f) r (λ t. h (lower t))) h (fixes_all f (λ i. r (suc i)))
  where
    go : (x y : ℕ) → ((s : Side) → on_side s x y ≡ 0) → ((p : Inner) → levels_map (level x y f) p ≡ p)
        → (((p : Inner) → levels_map f p ≡ p) → SameExponents f empty) → SameExponents (level x y f) empty
    go zero zero z k ih b_side zero = refl
    go zero zero z k ih a_side zero = refl
    go zero zero z k ih s (suc i) = ih (λ p. upper_injective (levels_map f p) p (k (upper p))) s i
    go zero (suc y) z k ih s i = absurd (omega (arith, z a_side))
    go (suc x) y z k ih s i = absurd (omega (arith, z b_side))

-- With the smaller powers at both ends cancelled.
cancelled : (b a d c e : ℕ) (f g : Form) → c ≡ b + d → e ≡ a + d
    → ((p : Inner) → levels_map (level b a f) p ≡ levels_map (level c e g) p)
    → (q : Inner) → lift (levels_map f) q ≡ iter map_a d (lift (levels_map g) (iter map_A d q))
cancelled b a d c e f g x y h q =
    iter_injective b (lift (levels_map f) q) (iter map_a d (lift (levels_map g) (iter map_A d q)))
    (iter map_a b (lift (levels_map f) q)
    ≡⟨ ap (λ p. iter map_a b (lift (levels_map f) p)) (sym (iter_undo a q)) ⟩
    iter map_a b (lift (levels_map f) (iter map_A a (iter map_a a q)))
    ≡⟨ h (iter map_a a q) ⟩
    iter map_a c (lift (levels_map g) (iter map_A e (iter map_a a q)))
    ≡⟨ ap (λ p. iter map_a c (lift (levels_map g) p)) (iter_add map_A d a e (iter map_a a q) (omega arith)) ⟩
    iter map_a c (lift (levels_map g) (iter map_A d (iter map_A a (iter map_a a q))))
    ≡⟨ ap (λ p. iter map_a c (lift (levels_map g) (iter map_A d p))) (iter_undo a q) ⟩
    iter map_a c (lift (levels_map g) (iter map_A d q))
    ≡⟨ iter_add map_a b d c (lift (levels_map g) (iter map_A d q)) x ⟩
    iter map_a b (iter map_a d (lift (levels_map g) (iter map_A d q))) ∎)

-- Two forms whose first levels differ by d on both sides: d is 0, and the levels above agree.
first-levels : (b a d c e : ℕ) (f g : Form) → c ≡ b + d → e ≡ a + d → Reduced (level c e g)
    → ((p : Inner) → levels_map (level b a f) p ≡ levels_map (level c e g) p)
    → (((p : Inner) → levels_map f p ≡ levels_map g p) → SameExponents f g)
    → SameExponents (level b a f) (level c e g)
first-levels b a zero c e f g x y r h ih =
    same_level f g (omega arith) (omega arith)
    (ih (λ p. upper_injective (levels_map f p) (levels_map g p) (cancelled b a 0 c e f g x y h (upper p))))
first-levels b a (suc d) c e f g x y r h ih =
    absurd
    (clause_broken g (r 0 (omega arith) (omega arith))
    (fixes_lower g (λ i. r (suc i))
    (inner_fixes d (levels_map g) (λ t. sym (cancelled b a (suc d) c e f g x y h (lower t))))))

-- Reduced forms whose levels have one map have the same exponents.
pub unique_levels : (f g : Form) → Reduced f → Reduced g → ((p : Inner) → levels_map f p ≡ levels_map g p)
    → SameExponents f g
unique_levels empty g r q h = λ s i. sym (fixes_all g q (λ p. sym (h p)) s i)
unique_levels (level b a f) empty r q h = fixes_all (level b a f) r h
unique_levels (level b a f) (level c d g) r q h =
    go (slope b a c d f g h) (dec_le b c) (unique_levels f g (λ i. r (suc i)) (λ i. q (suc i)))
  where
    go : b + d ≡ c + a → Dec (b ≤ c) → (((p : Inner) → levels_map f p ≡ levels_map g p) → SameExponents f g)
        → SameExponents (level b a f) (level c d g)
    go e (yes l) ih = first-levels b a (c - b) c d f g (omega arith) (omega arith) q h ih
    go e (no l) ih =
        λ s i.
        sym
        (first-levels c d (b - c) b a g f (omega arith) (omega arith) r (λ p. sym (h p))
        (λ k t j. sym (ih (λ p. sym (k p)) t j)) s i)
