-- A reducing step keeps the form's letters joined, and so its map (01, 'The reduced form'). Assumes nothing.
use mathlib.Core.Path.{◌≡◌, refl, sym, ◌∙◌, ap, ap₂, ◌≡⟨◌⟩◌, ◌∎}
use mathlib.Core.List.{append-nil}
use Prim.Native.Nat.{ℕ, zero, suc}
use native.Mathlib.Omega.{arith}
use Rattle.group.specs.Letters.{Word}
use Rattle.group.specs.Chains.{Joined}
use Rattle.group.specs.Maps.{SameMap}
use Rattle.group.specs.Forms.{Side, b_side, a_side, Form, empty, level, exponent, SameExponents, letters}
use Rattle.group.specs.Reducing.{ReducingStep}
use Rattle.group.proofs.Congruence.{◌≈◌, ≈_refl, ≈_sym, ◌⟫◌, ≈_path, ≈→joined}
use Rattle.group.proofs.Shift.{σ}
use Rattle.group.proofs.Exponents.{above, exponent_above}
use Rattle.group.proofs.Levels.{spell_level, spell_levels, level_cong, level_cancel, letters-levels}
use Rattle.group.proofs.Theorems.{joined_map}

-- A step above the first level.
pub above_step : (i : ℕ) (f g : Form) → ReducingStep (suc i) f g → ReducingStep i (above f) (above g)
above_step i f g t =
    record {
      applies =
          record {
            here = λ s. omega (arith, exponent_above s f i, t.applies.here s);
            next = λ s. exponent_above s f (suc i) ∙ t.applies.next s;
          };
      kept = λ s k h.
          exponent s (above g) k ≡⟨ exponent_above s g k ⟩
          exponent s g (suc k) ≡⟨ t.kept s (suc k) (omega arith) ⟩
          exponent s f (suc k) ≡⟨ sym (exponent_above s f k) ⟩
          exponent s (above f) k ∎;
      removed = λ s.
          suc (exponent s (above g) i) ≡⟨ ap suc (exponent_above s g i) ⟩
          suc (exponent s g (suc i)) ≡⟨ t.removed s ⟩
          exponent s f (suc i) ≡⟨ sym (exponent_above s f i) ⟩
          exponent s (above f) i ∎;
      lowered = λ s k h.
          exponent s (above g) k ≡⟨ exponent_above s g k ⟩
          exponent s g (suc k) ≡⟨ t.lowered s (suc k) (omega arith) ⟩
          exponent s f (suc (suc k)) ≡⟨ sym (exponent_above s f (suc k)) ⟩
          exponent s (above f) (suc k) ∎;
    }

-- What stands above level 1 before a step at 0 stands above level 0 behind it.
pub lowered_above : (f g : Form) → ReducingStep 0 f g → SameExponents (above (above f)) (above g)
lowered_above f g t s i =
    exponent s (above (above f)) i ≡⟨ exponent_above s (above f) i ⟩
    exponent s (above f) (suc i) ≡⟨ exponent_above s f (suc i) ⟩
    exponent s f (suc (suc i)) ≡⟨ sym (t.lowered s (suc i) (omega arith)) ⟩
    exponent s g (suc i) ≡⟨ sym (exponent_above s g i) ⟩
    exponent s (above g) i ∎

-- The spelling by levels, by exponents.
spell_first : (f : Form) → spell_levels f ≡ spell_level (exponent b_side f 0) (exponent a_side f 0) (spell_levels (above f))
spell_first empty = refl
spell_first (level b a f) = refl

spell_cong : (b a c d : ℕ) {u v : Word} → b ≡ c → a ≡ d → u ≈ v → spell_level b a u ≈ spell_level c d v
spell_cong b a c d {u} e h k = ≈_path (ap₂ (λ (m n : ℕ). spell_level m n u) e h) ⟫ level_cong c d k

same_spelling : (f g : Form) → SameExponents f g → spell_levels f ≈ spell_levels g
same_spelling empty empty h = ≈_refl
same_spelling empty (level c d g) h =
    spell_cong 0 0 c d (h b_side 0) (h a_side 0) (same_spelling empty g (λ s i. h s (suc i)))
same_spelling (level b a f) empty h =
    spell_cong b a 0 0 (h b_side 0) (h a_side 0) (same_spelling f empty (λ s i. h s (suc i)))
same_spelling (level b a f) (level c d g) h =
    spell_cong b a c d (h b_side 0) (h a_side 0) (same_spelling f g (λ s i. h s (suc i)))

-- The level above the place of a step is (0, 0).
spell_next : (f g : Form) → ReducingStep 0 f g → spell_levels (above f) ≈ σ (spell_levels (above (above f)))
spell_next f g t =
    ≈_path (spell_first (above f))
    ⟫ spell_cong (exponent b_side (above f) 0) (exponent a_side (above f) 0) 0 0
    {u = spell_levels (above (above f))} (zero_at b_side) (zero_at a_side) ≈_refl
    ⟫ ≈_path (append-nil (σ (spell_levels (above (above f)))))
  where
    zero_at : (s : Side) → exponent s (above f) 0 ≡ 0
    zero_at s = exponent_above s f 0 ∙ t.applies.next s

step_spelling : (i : ℕ) (f g : Form) → ReducingStep i f g → spell_levels f ≈ spell_levels g
step_spelling zero f g t =
    ≈_path (spell_first f)
    ⟫ spell_cong (exponent b_side f 0) (exponent a_side f 0) (suc (exponent b_side g 0)) (suc (exponent a_side g 0))
    (sym (t.removed b_side)) (sym (t.removed a_side)) (spell_next f g t)
    ⟫ level_cancel (exponent b_side g 0) (exponent a_side g 0) (spell_levels (above (above f)))
    ⟫ level_cong (exponent b_side g 0) (exponent a_side g 0)
    (same_spelling (above (above f)) (above g) (lowered_above f g t))
    ⟫ ≈_path (sym (spell_first g))
step_spelling (suc i) f g t =
    ≈_path (spell_first f)
    ⟫ spell_cong (exponent b_side f 0) (exponent a_side f 0) (exponent b_side g 0) (exponent a_side g 0)
    (sym (t.kept b_side 0 (omega arith))) (sym (t.kept a_side 0 (omega arith)))
    (step_spelling i (above f) (above g) (above_step i f g t))
    ⟫ ≈_path (sym (spell_first g))

pub step_letters : (i : ℕ) (f g : Form) → ReducingStep i f g → letters f ≈ letters g
step_letters i f g t = letters-levels f ⟫ step_spelling i f g t ⟫ ≈_sym (letters-levels g)

-- A reducing step keeps the form's letters joined, and so its map.
pub step_joined : (i : ℕ) (f g : Form) → ReducingStep i f g → Joined (letters f) (letters g)
step_joined i f g t = ≈→joined (step_letters i f g t)

pub step_map : (i : ℕ) (f g : Form) → ReducingStep i f g → SameMap (letters f) (letters g)
step_map i f g t = joined_map (letters f) (letters g) (step_joined i f g t)
