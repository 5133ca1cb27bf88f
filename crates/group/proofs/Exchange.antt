-- The form of an inverse is the form with its sides exchanged, and a letter put behind a form is its inverse put in
-- front, between two exchanges. The letters of an exchanged form are the inverse of the form's letters, letter for
-- letter. Only the identity is its own inverse. Assumes nothing.
use mathlib.Core.Path.{◌≡◌, refl, sym, ◌∙◌, ap, ap₂, ◌≡⟨◌⟩◌, ◌∎}
use mathlib.Core.List.{[], ◌∷◌, ◌++◌}
use mathlib.Core.Logic.{inl, inr, ⊎_elim}
use Prim.Native.Nat.{ℕ, zero, suc}
use native.Mathlib.Omega.{arith}
use Rattle.lists.specs.Copies.{copies}
use Rattle.lists.proofs.Copies.{copies_past}
use Rattle.group.specs.Letters.{Letter, Word, inverse_letter, inverse}
use Rattle.group.specs.Chains.{Joined}
use Rattle.group.specs.Forms.{Side, b_side, a_side, Form, empty, level, generator, exponent, Trimmed, ascending}
use Rattle.group.specs.Forms.{descending, letters, levels, exponent_sum}
use Rattle.group.specs.Reducing.{Occurs, Reduced}
use Rattle.group.specs.Products.{times_letter, form_of, exchange, behind_letter}
use Rattle.group.proofs.Congruence.{◌≈◌, ◌⟫◌, ≈_path, ≈_back, ≈→joined}
use Rattle.group.proofs.Inverses.{inverse_letter_twice, inverse-append, inverse_twice, inverse_cong, eight_pairs}
use Rattle.group.proofs.Products.{times_letter_sound, form_sound}
use Rattle.group.proofs.Reduced.{Canonical, letter_canonical, form_canonical}
use Rattle.group.proofs.Theorems.{the_form_joined, forms↔joined}

abbrev other_side : Side → Side
other_side b_side = a_side
other_side a_side = b_side

-- Exponents change sides.
pub exchange-exponent : (s : Side) (f : Form) (i : ℕ) → exponent s (exchange f) i ≡ exponent (other_side s) f i
exchange-exponent s empty i = refl
exchange-exponent b_side (level b a f) zero = refl
exchange-exponent a_side (level b a f) zero = refl
exchange-exponent s (level b a f) (suc i) = exchange-exponent s f i

exchange_reduced : (f : Form) → Reduced f → Reduced (exchange f)
exchange_reduced f r i x y =
    go (r i (omega (arith, exchange-exponent b_side f i)) (omega (arith, exchange-exponent a_side f i)))
  where
    go : Occurs f (suc i) → Occurs (exchange f) (suc i)
    go (inl h) = inr (omega (arith, exchange-exponent b_side f (suc i)))
    go (inr h) = inl (omega (arith, exchange-exponent a_side f (suc i)))

exchange_trimmed : (f : Form) → Trimmed f → Trimmed (exchange f)
exchange_trimmed empty t = tt
exchange_trimmed (level b a empty) t = omega arith
exchange_trimmed (level b a (level c d f)) t = exchange_trimmed (level c d f) t

pub exchange_canonical : (f : Form) → Canonical f → Canonical (exchange f)
exchange_canonical f c =
    record { reduced = exchange_reduced f c.reduced; trimmed = exchange_trimmed f c.trimmed }

-- Exchanged twice, a form is as it was; the exponents sum to the same.
pub exchange_twice : (f : Form) → exchange (exchange f) ≡ f
exchange_twice empty = refl
exchange_twice (level b a f) = ap (level b a) (exchange_twice f)

pub exchange-sum : (f : Form) → exponent_sum (exchange f) ≡ exponent_sum f
exchange-sum empty = refl
exchange-sum (level b a f) = omega (arith, exchange-sum f)

-- Only the empty form equals its exchange: at the highest index both exponents would be the same and not 0, and the
-- clause is broken there.
pub exchange_fixed : (f : Form) → Canonical f → exchange f ≡ f → f ≡ empty
exchange_fixed empty c e = refl
exchange_fixed (level b a empty) c e =
    let same : b ≡ a = ap (λ (g : Form). exponent a_side g 0) e in
    absurd (⊎_elim (λ h. omega arith) (λ h. omega arith) (c.reduced 0 (omega (arith, same, c.trimmed))
    (omega (arith, same, c.trimmed))))
exchange_fixed (level b a (level x y f)) c e =
    let above : Canonical (level x y f) = record { reduced = λ i. c.reduced (suc i); trimmed = c.trimmed } in
    let none : level x y f ≡ empty = exchange_fixed (level x y f) above (ap above_first e) in
    absurd (omega (arith, ap levels none))
  where
    above_first : Form → Form
    above_first empty = empty
    above_first (level u v g) = g

-- The inverse of a power.
inverse-copies : (n : ℕ) (w : Word) → inverse (copies n w) ≡ copies n (inverse w)
inverse-copies zero w = refl
inverse-copies (suc n) w =
    inverse (w ++ copies n w) ≡⟨ inverse-append w (copies n w) ⟩
    inverse (copies n w) ++ inverse w ≡⟨ ap (λ (u : Word). u ++ inverse w) (inverse-copies n w) ⟩
    copies n (inverse w) ++ inverse w ≡⟨ copies_past n (inverse w) ⟩
    inverse w ++ copies n (inverse w) ∎

ascending-exchange : (k : ℕ) (f : Form) → ascending k (exchange f) ≡ inverse (descending k f)
ascending-exchange k empty = refl
ascending-exchange k (level b a f) =
    let x : Word = generator k in
    let v : Word = descending (suc k) f in
    copies a x ++ ascending (suc k) (exchange f)
    ≡⟨ ap (λ (u : Word). copies a x ++ u) (ascending-exchange (suc k) f) ⟩
    copies a x ++ inverse v
    ≡⟨ ap (λ (u : Word). copies a u ++ inverse v) (sym (inverse_twice x)) ⟩
    copies a (inverse (inverse x)) ++ inverse v
    ≡⟨ ap (λ (u : Word). u ++ inverse v) (sym (inverse-copies a (inverse x))) ⟩
    inverse (copies a (inverse x)) ++ inverse v
    ≡⟨ sym (inverse-append v (copies a (inverse x))) ⟩
    inverse (v ++ copies a (inverse x)) ∎

descending-exchange : (k : ℕ) (f : Form) → descending k (exchange f) ≡ inverse (ascending k f)
descending-exchange k empty = refl
descending-exchange k (level b a f) =
    ap₂ (λ (u v : Word). u ++ v) (descending-exchange (suc k) f) (sym (inverse-copies b (generator k)))
    ∙ sym (inverse-append (copies b (generator k)) (ascending (suc k) f))

pub letters-exchange : (f : Form) → letters (exchange f) ≡ inverse (letters f)
letters-exchange f =
    ap₂ (λ (u v : Word). u ++ v) (ascending-exchange 0 f) (descending-exchange 0 f)
    ∙ sym (inverse-append (ascending 0 f) (descending 0 f))

-- The form of the inverse.
pub form_inverse : (w : Word) → form_of (inverse w) ≡ exchange (form_of w)
form_inverse w =
    let c : Canonical (exchange (form_of w)) = exchange_canonical (form_of w) (form_canonical w) in
    sym
    (the_form_joined (inverse w) (exchange (form_of w)) c.reduced c.trimmed
    (≈→joined (≈_path (letters-exchange (form_of w)) ⟫ inverse_cong eight_pairs (form_sound w))))

-- A letter put behind a form stands behind its letters.
behind-sound : (f : Form) (x : Letter) → letters (behind_letter f x) ≈ (letters f ++ (x ∷ []))
behind-sound f x =
    ≈_path (letters-exchange (times_letter (inverse_letter x) (exchange f)))
    ⟫ inverse_cong eight_pairs (times_letter_sound (inverse_letter x) (exchange f))
    ⟫ ≈_path
    (ap₂ (λ (u : Word) (y : Letter). u ++ (y ∷ []))
    (ap inverse (letters-exchange f) ∙ inverse_twice (letters f))
    (inverse_letter_twice x))

pub behind_joined : (f : Form) (x : Letter) → Joined (letters (behind_letter f x)) (letters f ++ (x ∷ []))
behind_joined f x = ≈→joined (behind-sound f x)

pub behind_canonical : (f : Form) (x : Letter) → Canonical f → Canonical (behind_letter f x)
behind_canonical f x c =
    exchange_canonical (times_letter (inverse_letter x) (exchange f))
    (letter_canonical (inverse_letter x) (exchange f) (exchange_canonical f c))

pub form_behind : (w : Word) (x : Letter) → form_of (w ++ (x ∷ [])) ≡ behind_letter (form_of w) x
form_behind w x =
    let c : Canonical (behind_letter (form_of w) x) = behind_canonical (form_of w) x (form_canonical w) in
    sym
    (the_form_joined (w ++ (x ∷ [])) (behind_letter (form_of w) x) c.reduced c.trimmed
    (≈→joined (behind-sound (form_of w) x ⟫ ≈_back (form_sound w) (x ∷ []))))

-- A word that a chain joins to its inverse is joined to the empty word.
pub self_inverse : (w : Word) → Joined w (inverse w) → Joined w []
self_inverse w h =
    let fixed : exchange (form_of w) ≡ form_of w = sym (form_inverse w) ∙ sym ((forms↔joined w (inverse w)).1 h) in
    (forms↔joined w []).0 (exchange_fixed (form_of w) (form_canonical w) fixed)
