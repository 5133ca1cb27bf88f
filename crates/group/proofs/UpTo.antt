-- The form with given exponents, `form_up_to`, read back. Assumes nothing.
use mathlib.Core.Path.{◌≡◌, refl, ◌∙◌}
use Prim.Native.Nat.{ℕ, zero, suc, ◌<◌, ◌≤◌}
use native.Mathlib.Omega.{arith}
use Rattle.group.specs.Forms.{Side, b_side, a_side, Form, empty, level, on_side, exponent, Trimmed}
use Rattle.group.specs.UpTo.{put_level, form_up_to}

put_here : (s : Side) (b a : ℕ) (f : Form) → exponent s (put_level b a f) 0 ≡ on_side s b a
put_here b_side zero zero empty = refl
put_here a_side zero zero empty = refl
put_here s zero zero (level c d f) = refl
put_here s zero (suc a) f = refl
put_here s (suc b) a f = refl

put_above : (s : Side) (b a : ℕ) (f : Form) (i : ℕ) → exponent s (put_level b a f) (suc i) ≡ exponent s f i
put_above s zero zero empty i = refl
put_above s zero zero (level c d f) i = refl
put_above s zero (suc a) f i = refl
put_above s (suc b) a f i = refl

put_trimmed : (b a : ℕ) (f : Form) → Trimmed f → Trimmed (put_level b a f)
put_trimmed zero zero empty t = tt
put_trimmed zero zero (level c d f) t = t
put_trimmed zero (suc a) empty t = omega arith
put_trimmed zero (suc a) (level c d f) t = t
put_trimmed (suc b) a empty t = omega arith
put_trimmed (suc b) a (level c d f) t = t

-- The given exponents below m, and 0 from m on.
pub up_to_below : (m : ℕ) (b a : ℕ → ℕ) (s : Side) (i : ℕ) → i < m → exponent s (form_up_to m b a) i ≡ on_side s (b i) (a i)
unfolding form_up_to
up_to_below zero b a s i h = absurd (omega arith)
up_to_below (suc m) b a s zero h = put_here s (b 0) (a 0) (form_up_to m (λ j. b (suc j)) (λ j. a (suc j)))
up_to_below (suc m) b a s (suc i) h =
    put_above s (b 0) (a 0) (form_up_to m (λ j. b (suc j)) (λ j. a (suc j))) i
    ∙ up_to_below m (λ j. b (suc j)) (λ j. a (suc j)) s i (omega arith)

pub up_to_behind : (m : ℕ) (b a : ℕ → ℕ) (s : Side) (i : ℕ) → m ≤ i → exponent s (form_up_to m b a) i ≡ 0
unfolding form_up_to
up_to_behind zero b a s i h = refl
up_to_behind (suc m) b a s zero h = absurd (omega arith)
up_to_behind (suc m) b a s (suc i) h =
    put_above s (b 0) (a 0) (form_up_to m (λ j. b (suc j)) (λ j. a (suc j))) i
    ∙ up_to_behind m (λ j. b (suc j)) (λ j. a (suc j)) s i (omega arith)

pub up_to_index : (m : ℕ) (b a : ℕ → ℕ) (s : Side) (i : ℕ) → 0 < exponent s (form_up_to m b a) i → i < m
unfolding form_up_to
up_to_index zero b a s i h = absurd (omega arith)
up_to_index (suc m) b a s zero h = omega arith
up_to_index (suc m) b a s (suc i) h =
    let e = put_above s (b 0) (a 0) (form_up_to m (λ j. b (suc j)) (λ j. a (suc j))) i in
    let low = up_to_index m (λ j. b (suc j)) (λ j. a (suc j)) s i (rw e at h) in
    omega arith

pub up_to_trimmed : (m : ℕ) (b a : ℕ → ℕ) → Trimmed (form_up_to m b a)
unfolding form_up_to
up_to_trimmed zero b a = tt
up_to_trimmed (suc m) b a =
    put_trimmed (b 0) (a 0) (form_up_to m (λ j. b (suc j)) (λ j. a (suc j)))
    (up_to_trimmed m (λ j. b (suc j)) (λ j. a (suc j)))
