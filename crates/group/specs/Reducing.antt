-- Reduced forms and reducing steps (01, 'The reduced form'; 000, section 2.1, below formula 3).
-- Assumes nothing.
use Rattle.std.specs.Prelude.{◌≡◌, ◌⊎◌, ℕ, suc, ◌<◌}
use Rattle.group.specs.Forms.{Side, b_side, a_side, Form, exponent}

-- At least one of a_i, b_i is above 0: x_i or its inverse occurs.
abbrev pub Occurs : Form → ℕ → Type 0
Occurs f i = (0 < exponent a_side f i) ⊎ (0 < exponent b_side f i)

-- For each i with both a_i and b_i above 0, at least one of a_(i+1), b_(i+1) is above 0.
abbrev pub Reduced : Form → Type 0
Reduced f = (i : ℕ) → 0 < exponent a_side f i → 0 < exponent b_side f i → Occurs f (suc i)

-- A reducing step applies at i: both x_i and x_i⁻¹ occur, and neither x_(i+1) nor its inverse does.
pub record Applies (i : ℕ) (f : Form) : Type 0 where
  pub here : (s : Side) → 0 < exponent s f i
  pub next : (s : Side) → exponent s f (suc i) ≡ 0

-- The step at i, from f to g: one x_i and one x_i⁻¹ are removed, and every index above i+1 is lowered by one.
pub record ReducingStep (i : ℕ) (f g : Form) : Type 0 where
  pub applies : Applies i f
  pub kept : (s : Side) (k : ℕ) → k < i → exponent s g k ≡ exponent s f k
  pub removed : (s : Side) → suc (exponent s g i) ≡ exponent s f i
  pub lowered : (s : Side) (k : ℕ) → i < k → exponent s g k ≡ exponent s f (suc k)

-- `n` reducing steps, at any indices and in any order, lead from f to g.
pub data Steps : ℕ → Form → Form → Type 0 where
  stay : {f : Form} → Steps 0 f f
  onward : {n : ℕ} {f g h : Form} (i : ℕ) → ReducingStep i f g → Steps n g h → Steps (suc n) f h
