-- No reducing step applies just where a form is reduced, and where one applies it can be taken (01, 'The reduced
-- form'). Assumes nothing.
use mathlib.Core.Path.{◌≡◌, refl}
use mathlib.Core.Logic.{◌⊎◌, inl, inr, ◌↔◌}
use Prim.Native.Nat.{ℕ, zero, suc, pred, ◌<◌}
use native.Mathlib.Omega.{arith}
use Rattle.group.specs.Forms.{Side, b_side, a_side, Form, empty, level, exponent}
use Rattle.group.specs.Reducing.{Occurs, Reduced, Applies, ReducingStep}
use Rattle.group.proofs.Exponents.{above, exponent_above}
use Rattle.group.proofs.Reduced.{level_reduced}

-- Either the clause holds at every index, or a step applies at some.
pub reduced_or_applies : (f : Form) → Reduced f ⊎ ((i : ℕ) × Applies i f)
reduced_or_applies empty = inl (λ i x y. absurd (omega arith))
reduced_or_applies (level b a f) = go (reduced_or_applies f)
  where
    first : Reduced f → (x y c d : ℕ) → exponent b_side (level b a f) 0 ≡ x → exponent a_side (level b a f) 0 ≡ y
        → exponent b_side f 0 ≡ c → exponent a_side f 0 ≡ d
        → Reduced (level b a f) ⊎ ((i : ℕ) × Applies i (level b a f))
    first r zero y c d p q u v = inl (level_reduced b a f (λ m n. absurd (omega arith)) r)
    first r (suc x) zero c d p q u v = inl (level_reduced b a f (λ m n. absurd (omega arith)) r)
    first r (suc x) (suc y) (suc c) d p q u v = inl (level_reduced b a f (λ m n. inr (omega arith)) r)
    first r (suc x) (suc y) zero (suc d) p q u v = inl (level_reduced b a f (λ m n. inl (omega arith)) r)
    first r (suc x) (suc y) zero zero p q u v = inr (0, record { here = occurs; next = absent })
      where
        occurs : (s : Side) → 0 < exponent s (level b a f) 0
        occurs b_side = omega arith
        occurs a_side = omega arith

        absent : (s : Side) → exponent s f 0 ≡ 0
        absent b_side = u
        absent a_side = v

    go : Reduced f ⊎ ((i : ℕ) × Applies i f) → Reduced (level b a f) ⊎ ((i : ℕ) × Applies i (level b a f))
    go (inl r) = first r b a (exponent b_side f 0) (exponent a_side f 0) refl refl refl refl
    go (inr t) = inr (suc t.0, record { here = t.1.here; next = t.1.next })

pub reduced_no_step : (f : Form) → Reduced f → (i : ℕ) → Applies i f → ⊥
reduced_no_step f r i t = go (r i (t.here a_side) (t.here b_side))
  where
    go : Occurs f (suc i) → ⊥
    go (inl h) = omega (arith, t.next a_side)
    go (inr h) = omega (arith, t.next b_side)

-- A form is reduced just where no step applies.
pub reduced↔no_step : (f : Form) → Reduced f ↔ ((i : ℕ) → Applies i f → ⊥)
reduced↔no_step f = (reduced_no_step f, reduced)
  where
    reduced : ((i : ℕ) → Applies i f → ⊥) → Reduced f
    reduced h = go (reduced_or_applies f)
      where
        go : Reduced f ⊎ ((i : ℕ) × Applies i f) → Reduced f
        go (inl r) = r
        go (inr t) = absurd (h t.0 t.1)

-- Where a step applies it can be taken.
abbrev pub step_at : ℕ → Form → Form
step_at i empty = empty
step_at zero (level b a f) = level (pred b) (pred a) (above f)
step_at (suc i) (level b a f) = level b a (step_at i f)

pub step_exists : (i : ℕ) (f : Form) → Applies i f → ReducingStep i f (step_at i f)
step_exists i empty t = absurd (omega (arith, t.here b_side))
step_exists zero (level b a f) t =
    record { applies = t; kept = λ s k h. absurd (omega arith); removed = one_less; lowered = one_lower }
  where
    suc_pred : (n : ℕ) → 0 < n → suc (pred n) ≡ n
    suc_pred n h = omega arith

    one_less : (s : Side) → suc (exponent s (step_at 0 (level b a f)) 0) ≡ exponent s (level b a f) 0
    one_less b_side = suc_pred b (t.here b_side)
    one_less a_side = suc_pred a (t.here a_side)

    one_lower : (s : Side) (k : ℕ) → 0 < k → exponent s (step_at 0 (level b a f)) k ≡ exponent s f k
    one_lower s zero h = absurd (omega arith)
    one_lower s (suc k) h = exponent_above s f k
step_exists (suc i) (level b a f) t = on_level (step_exists i f (record { here = t.here; next = t.next }))
  where
    on_level : ReducingStep i f (step_at i f) → ReducingStep (suc i) (level b a f) (level b a (step_at i f))
    on_level u = record { applies = t; kept = same; removed = u.removed; lowered = lower }
      where
        same : (s : Side) (k : ℕ) → k < suc i → exponent s (level b a (step_at i f)) k ≡ exponent s (level b a f) k
        same s zero h = refl
        same s (suc k) h = u.kept s k (omega arith)

        lower : (s : Side) (k : ℕ) → suc i < k → exponent s (level b a (step_at i f)) k ≡ exponent s f k
        lower s zero h = absurd (omega arith)
        lower s (suc k) h = u.lowered s k (omega arith)
