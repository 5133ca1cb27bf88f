-- Laws of outcomes: accepted is not refused, an outcome says what it holds, and what led to an acceptance.
-- Assumes nothing.
use mathlib.Core.Path.{◌≡◌, refl, sym}
use mathlib.Core.Bool.{Bool, true, false, cond}
use mathlib.Core.Logic.{◌↔◌}
use Prim.Native.Nat.{ℕ}
use native.Mathlib.Omega.{arith}
use Rattle.refusals.specs.Outcomes.{Outcome, accepted, refused, valued, drop_value}

module _ {A : Type 0} where
  pub accepted_same : {x y : A} → accepted x ≡ accepted y → x ≡ y
  accepted_same h = cc

  pub accepted_refused : {x : A} {n p : ℕ} → accepted x ≡ refused n p → ⊥
  accepted_refused h = let z : ◌≡◌ {A = ℕ} 0 1 = cc in omega arith

  pub refused_number : {n p m q : ℕ} → ◌≡◌ {A = Outcome A} (refused n p) (refused m q) → n ≡ m
  refused_number h = cc

  pub refused_place : {n p m q : ℕ} → ◌≡◌ {A = Outcome A} (refused n p) (refused m q) → p ≡ q
  refused_place h = cc

module _ {A : Type 0} where
  -- A test that would refuse was passed.
  pub passed : (t : Bool) (n p : ℕ) (o : Outcome A) (x : A) → cond t (refused n p) o ≡ accepted x
      → (t ≡ false) × (o ≡ accepted x)
  passed true n p o x e = absurd (accepted_refused (sym e))
  passed false n p o x e = (refl, e)

  -- What an outcome that counts as accepted holds.
  pub drop_accepted : (o : Outcome A) → accepted 0 ≡ drop_value o → (x : A) × (o ≡ accepted x)
  drop_accepted (accepted x) e = (x, refl)
  drop_accepted (refused n p) e = absurd (accepted_refused e)

  -- An outcome that counts as refused.
  pub drop_refused : {n p : ℕ} (o : Outcome A) → refused n p ≡ drop_value o → o ≡ refused n p
  drop_refused (accepted x) e = absurd (accepted_refused (sym e))
  drop_refused (refused m q) e = cc

  -- An outcome with a number in place of what was found.
  pub valued_refused : (g : A → ℕ) (o : Outcome A) (n p : ℕ) → valued g o ≡ refused n p → o ≡ refused n p
  valued_refused g (accepted x) n p h = absurd (accepted_refused h)
  valued_refused g (refused k q) n p h = cc

  pub valued_accepted : (g : A → ℕ) (o : Outcome A) (n : ℕ) → valued g o ≡ accepted n
      → (x : A) × (o ≡ accepted x) × (g x ≡ n)
  valued_accepted g (accepted x) n h = let e : g x ≡ n = cc in (x, refl, e)
  valued_accepted g (refused k q) n h = absurd (accepted_refused (sym h))

-- What is refused just under some conditions is accepted just where none of them holds.
pub accepted_when : (o : Outcome ℕ) (P : ℕ → ℕ → Type 0) → ((n p : ℕ) → (o ≡ refused n p) ↔ P n p)
    → ((n : ℕ) × (o ≡ accepted n)) ↔ ((n p : ℕ) → P n p → ⊥)
accepted_when (accepted x) P h = ((λ a n p c. accepted_refused ((h n p).1 c)), λ none. (x, refl))
accepted_when (refused k q) P h =
    ((λ a. absurd (accepted_refused (sym a.1))), λ none. absurd (none k q ((h k q).0 refl)))
