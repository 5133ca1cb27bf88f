-- The form of a word is reduced and trimmed: a letter times a reduced, trimmed form is one. Assumes nothing.
use mathlib.Core.List.{[], ◌∷◌}
use mathlib.Core.Logic.{inl, inr}
use Prim.Native.Nat.{ℕ, zero, suc, ◌+◌, ◌<◌}
use native.Mathlib.Omega.{arith}
use Rattle.group.specs.Letters.{Letter, 'a, 'A, 'b, 'B, Word}
use Rattle.group.specs.Forms.{Side, b_side, a_side, Form, empty, level, Trimmed}
use Rattle.group.specs.Reducing.{Occurs, Reduced}
use Rattle.group.specs.Products.{reduce_level, times_x0, single, times_generator, times_letter, form_of}
use Rattle.group.proofs.Exponents.{trimmed_above}

-- A level that is not (0, 0) may be the last.
level_trimmed : (b a : ℕ) (f : Form) → 0 < b + a → Trimmed f → Trimmed (level b a f)
level_trimmed b a empty h t = h
level_trimmed b a (level c d f) h t = t

pub reduce_level_trimmed : (b a : ℕ) (f : Form) → Trimmed f → Trimmed (reduce_level b a f)
reduce_level_trimmed zero zero empty t = tt
reduce_level_trimmed zero zero (level c d f) t = t
reduce_level_trimmed zero (suc a) f t = level_trimmed 0 (suc a) f (omega arith) t
reduce_level_trimmed (suc b) zero f t = level_trimmed (suc b) 0 f (omega arith) t
reduce_level_trimmed (suc b) (suc a) empty t = reduce_level_trimmed b a empty t
reduce_level_trimmed (suc b) (suc a) (level zero zero f) t = reduce_level_trimmed b a f (trimmed_above 0 0 f t)
reduce_level_trimmed (suc b) (suc a) (level zero (suc d) f) t = t
reduce_level_trimmed (suc b) (suc a) (level (suc c) d f) t = t

-- A level that keeps the clause, on levels that keep it.
pub level_reduced : (b a : ℕ) (f : Form)
    → (0 < a → 0 < b → Occurs f 0) → Reduced f → Reduced (level b a f)
level_reduced b a f h r zero = h
level_reduced b a f h r (suc i) = r i

reduce_level_reduced : (b a : ℕ) (f : Form) → Reduced f → Reduced (reduce_level b a f)
reduce_level_reduced zero zero empty r = r
reduce_level_reduced zero zero (level c d f) r = level_reduced 0 0 (level c d f) (λ x y. absurd (omega arith)) r
reduce_level_reduced zero (suc a) f r = level_reduced 0 (suc a) f (λ x y. absurd (omega arith)) r
reduce_level_reduced (suc b) zero f r = level_reduced (suc b) 0 f (λ x y. absurd (omega arith)) r
reduce_level_reduced (suc b) (suc a) empty r = reduce_level_reduced b a empty r
reduce_level_reduced (suc b) (suc a) (level zero zero f) r = reduce_level_reduced b a f (λ i. r (suc i))
reduce_level_reduced (suc b) (suc a) (level zero (suc d) f) r =
    level_reduced (suc b) (suc a) (level 0 (suc d) f) (λ x y. inl (omega arith)) r
reduce_level_reduced (suc b) (suc a) (level (suc c) d f) r =
    level_reduced (suc b) (suc a) (level (suc c) d f) (λ x y. inr (omega arith)) r

-- Both at once: what each product keeps.
pub record Canonical (f : Form) : Type 0 where
  pub reduced : Reduced f
  pub trimmed : Trimmed f

empty_canonical : Canonical empty
empty_canonical = record { reduced = λ i x y. absurd (omega arith); trimmed = tt }

above_canonical : (b a : ℕ) (f : Form) → Canonical (level b a f) → Canonical f
above_canonical b a f c = record { reduced = λ i. c.reduced (suc i); trimmed = trimmed_above b a f c.trimmed }

reduce_level_canonical : (b a : ℕ) (f : Form) → Canonical f → Canonical (reduce_level b a f)
reduce_level_canonical b a f c =
    record { reduced = reduce_level_reduced b a f c.reduced; trimmed = reduce_level_trimmed b a f c.trimmed }

x0_canonical : (s : Side) (f : Form) → Canonical f → Canonical (times_x0 s f)
x0_canonical b_side empty c = reduce_level_canonical 1 0 empty c
x0_canonical b_side (level b a f) c = reduce_level_canonical (suc b) a f (above_canonical b a f c)
x0_canonical a_side empty c = reduce_level_canonical 0 1 empty c
x0_canonical a_side (level zero a f) c =
    reduce_level_canonical 0 (suc a) (reduce_level 0 0 f) (reduce_level_canonical 0 0 f (above_canonical 0 a f c))
x0_canonical a_side (level (suc b) a f) c = reduce_level_canonical b a f (above_canonical (suc b) a f c)

single_canonical : (s : Side) (k : ℕ) → Canonical (single s k)
single_canonical s zero = x0_canonical s empty empty_canonical
single_canonical s (suc k) = reduce_level_canonical 0 0 (single s k) (single_canonical s k)

pub times_canonical : (s : Side) (k : ℕ) (f : Form) → Canonical f → Canonical (times_generator s k f)
times_canonical s k empty c = single_canonical s k
times_canonical s zero (level b a f) c = x0_canonical s (level b a f) c
times_canonical s (suc k) (level b a f) c =
    reduce_level_canonical b a (times_generator s (k + b) f)
    (times_canonical s (k + b) f (above_canonical b a f c))

pub letter_canonical : (x : Letter) (f : Form) → Canonical f → Canonical (times_letter x f)
letter_canonical 'a f c = times_canonical b_side 0 f c
letter_canonical 'A f c = times_canonical a_side 0 f c
letter_canonical 'b f c = times_canonical b_side 1 f c
letter_canonical 'B f c = times_canonical a_side 1 f c

pub form_canonical : (w : Word) → Canonical (form_of w)
form_canonical [] = empty_canonical
form_canonical (x ∷ w) = letter_canonical x (form_of w) (form_canonical w)

pub form_reduced : (w : Word) → Reduced (form_of w)
form_reduced w = (form_canonical w).reduced

pub form_trimmed : (w : Word) → Trimmed (form_of w)
form_trimmed w = (form_canonical w).trimmed
