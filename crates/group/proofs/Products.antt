-- A letter times a form is sound: the letter in front of the form's spelling is congruent to the spelling of the
-- product. So a word is joined to the letters of its form. Assumes nothing.
use mathlib.Core.Path.{◌≡◌, sym, ap}
use mathlib.Core.List.{[], ◌∷◌, ◌++◌, append_assoc, append-nil}
use Prim.Native.Nat.{ℕ, zero, suc, ◌+◌}
use native.Mathlib.Omega.{arith}
use lib.ListN.{replicate}
use Rattle.group.specs.Letters.{Letter, 'a, 'A, 'b, 'B, Word}
use Rattle.group.specs.Chains.{pair_Aa, Joined}
use Rattle.group.specs.Forms.{Side, b_side, a_side, Form, empty, level, letters}
use Rattle.group.specs.Products.{reduce_level, times_x0, single, times_generator, times_letter, form_of}
use Rattle.group.proofs.Congruence.{◌≈◌, ≈_refl, ≈_sym, ≈_cons, ≈_drop, ◌⟫◌, ≈_path, ≈_front, ≈_back, ≈→joined}
use Rattle.group.proofs.Shift.{σ, σ_append, σ_cong, A-past, a_past}
use Rattle.group.proofs.Generators.{σs, σs_out}
use Rattle.group.proofs.Levels.{spell_level, spell_levels, level_cong, level_cancel, letters-levels}

reduce_level_sound : (b a : ℕ) (f : Form) → spell_levels (reduce_level b a f) ≈ spell_level b a (spell_levels f)
reduce_level_sound zero zero empty = ≈_refl
reduce_level_sound zero zero (level c d f) = ≈_refl
reduce_level_sound zero (suc a) f = ≈_refl
reduce_level_sound (suc b) zero f = ≈_refl
reduce_level_sound (suc b) (suc a) empty = reduce_level_sound b a empty ⟫ ≈_sym (level_cancel b a [])
reduce_level_sound (suc b) (suc a) (level zero zero f) =
    reduce_level_sound b a f
    ⟫ ≈_sym (level_cancel b a (spell_levels f))
    ⟫ level_cong (suc b) (suc a) (≈_path (sym (append-nil (σ (spell_levels f)))))
reduce_level_sound (suc b) (suc a) (level zero (suc d) f) = ≈_refl
reduce_level_sound (suc b) (suc a) (level (suc c) d f) = ≈_refl

raise_sound : (f : Form) → spell_levels (reduce_level 0 0 f) ≈ σ (spell_levels f)
raise_sound f = reduce_level_sound 0 0 f ⟫ ≈_path (append-nil (σ (spell_levels f)))

-- x_0 or its inverse, and x_k or its inverse, by shifts.
abbrev pub signed0 : Side → Word
signed0 b_side = 'a ∷ []
signed0 a_side = 'A ∷ []

abbrev pub signed : Side → ℕ → Word
signed s k = σs k (signed0 s)

x0_sound : (s : Side) (f : Form) → (signed s 0 ++ spell_levels f) ≈ spell_levels (times_x0 s f)
x0_sound b_side empty = ≈_refl
x0_sound b_side (level b a f) = ≈_sym (reduce_level_sound (suc b) a f)
x0_sound a_side empty = ≈_refl
x0_sound a_side (level zero a f) =
    ≈_sym (A-past (spell_levels f) (replicate a 'A))
    ⟫ ≈_back (σ_cong (≈_sym (raise_sound f))) (replicate (suc a) 'A)
x0_sound a_side (level (suc b) a f) =
    ≈_drop pair_Aa (spell_level b a (spell_levels f)) ⟫ ≈_sym (reduce_level_sound b a f)

single-sound : (s : Side) (k : ℕ) → signed s k ≈ spell_levels (single s k)
single-sound b_side zero = ≈_refl
single-sound a_side zero = ≈_refl
single-sound s (suc k) =
    ≈_path (σs_out k (signed0 s)) ⟫ σ_cong (single-sound s k) ⟫ ≈_sym (raise_sound (single s k))

-- x_(k+1) passes x_0^n as x_(k+1+n).
past_power : (s : Side) (k n : ℕ) (t : Word)
    → (σ (signed s k) ++ (replicate n 'a ++ t)) ≈ (replicate n 'a ++ (σ (signed s (k + n)) ++ t))
past_power s k zero t =
    let e : k ≡ k + 0 = omega arith in
    ≈_path (ap (λ (j : ℕ). σ (signed s j) ++ t) e)
past_power s k (suc n) t =
    let e : suc k + n ≡ k + suc n = omega arith in
    a_past (signed s k) (replicate n 'a ++ t)
    ⟫ ≈_cons 'a
    (≈_path (ap (λ (g : Word). σ g ++ (replicate n 'a ++ t)) (sym (σs_out k (signed0 s))))
    ⟫ past_power s (suc k) n t ⟫ ≈_path (ap (λ (j : ℕ). replicate n 'a ++ (σ (signed s j) ++ t)) e))

pub times_sound : (s : Side) (k : ℕ) (f : Form) → (signed s k ++ spell_levels f) ≈ spell_levels (times_generator s k f)
times_sound s k empty = ≈_path (append-nil (signed s k)) ⟫ single-sound s k
times_sound s zero (level b a f) = x0_sound s (level b a f)
times_sound s (suc k) (level b a f) =
    ≈_path (ap (λ (g : Word). g ++ spell_levels (level b a f)) (σs_out k (signed0 s)))
    ⟫ past_power s k b (σ (spell_levels f) ++ replicate a 'A)
    ⟫ ≈_front (replicate b 'a)
    (≈_path (sym (append_assoc (σ (signed s (k + b))) (σ (spell_levels f)) (replicate a 'A)))
    ⟫ ≈_back
    (≈_path (sym (σ_append (signed s (k + b)) (spell_levels f))) ⟫ σ_cong (times_sound s (k + b) f))
    (replicate a 'A))
    ⟫ ≈_sym (reduce_level_sound b a (times_generator s (k + b) f))

letter_levels : (x : Letter) (f : Form) → (x ∷ spell_levels f) ≈ spell_levels (times_letter x f)
letter_levels 'a f = times_sound b_side 0 f
letter_levels 'A f = times_sound a_side 0 f
letter_levels 'b f = times_sound b_side 1 f
letter_levels 'B f = times_sound a_side 1 f

-- The letters of a letter times a form.
pub times_letter_sound : (x : Letter) (f : Form) → letters (times_letter x f) ≈ (x ∷ letters f)
times_letter_sound x f =
    letters-levels (times_letter x f) ⟫ ≈_sym (letter_levels x f) ⟫ ≈_cons x (≈_sym (letters-levels f))

-- The letters of a word's form are congruent to the word.
pub form_sound : (w : Word) → letters (form_of w) ≈ w
form_sound [] = ≈_refl
form_sound (x ∷ w) = times_letter_sound x (form_of w) ⟫ ≈_cons x (form_sound w)

pub form_joined : (w : Word) → Joined (letters (form_of w)) w
form_joined w = ≈→joined (form_sound w)
