-- A word of n letters has a form whose exponents sum to at most n, and no index above n (01, 'The reduced form'). How
-- many levels a trimmed form has. Assumes nothing.
use mathlib.Core.Path.{◌≡◌, refl, ap}
use mathlib.Core.List.{[], ◌∷◌}
use Prim.Native.Nat.{ℕ, zero, suc, ◌+◌, ◌<◌, ◌≤◌}
use native.Mathlib.Omega.{arith}
use lib.ListN.{length}
use Rattle.group.specs.Letters.{Letter, 'a, 'A, 'b, 'B, Word}
use Rattle.group.specs.Forms.{Side, b_side, a_side, Form, empty, level, exponent, Trimmed, levels, exponent_sum}
use Rattle.group.specs.Products.{reduce_level, times_x0, single, times_generator, times_letter, form_of}
use Rattle.group.proofs.Exponents.{trimmed_above, trimmed_equal}

-- What a product adds at most: one letter, and levels up to a height.
record Adds (height : ℕ) (f g : Form) : Type 0 where
  sum : exponent_sum g ≤ suc (exponent_sum f)
  high : levels g ≤ height

reduce_level_size : (b a : ℕ) (f : Form)
    → (exponent_sum (reduce_level b a f) ≤ b + a + exponent_sum f) × (levels (reduce_level b a f) ≤ suc (levels f))
reduce_level_size zero zero empty = omega arith
reduce_level_size zero zero (level c d f) = omega arith
reduce_level_size zero (suc a) f = omega arith
reduce_level_size (suc b) zero f = omega arith
reduce_level_size (suc b) (suc a) empty = omega (arith, reduce_level_size b a empty)
reduce_level_size (suc b) (suc a) (level zero zero f) = omega (arith, reduce_level_size b a f)
reduce_level_size (suc b) (suc a) (level zero (suc d) f) = omega arith
reduce_level_size (suc b) (suc a) (level (suc c) d f) = omega arith

x0_adds : (s : Side) (f : Form) → Adds (suc (levels f)) f (times_x0 s f)
x0_adds b_side empty = omega arith
x0_adds b_side (level b a f) = omega (arith, reduce_level_size (suc b) a f)
x0_adds a_side empty = omega arith
x0_adds a_side (level zero a f) = omega (arith, reduce_level_size 0 0 f)
x0_adds a_side (level (suc b) a f) = omega (arith, reduce_level_size b a f)

single_adds : (s : Side) (k : ℕ) → Adds (suc k) empty (single s k)
single_adds s zero = x0_adds s empty
single_adds s (suc k) = omega (arith, reduce_level_size 0 0 (single s k), single_adds s k)

-- x_k f has an index of at most k and the exponents that it passes, or the highest of f and one more.
times_adds : (s : Side) (k : ℕ) (f : Form) (n : ℕ) → suc (levels f) ≤ n → suc (k + exponent_sum f) ≤ n
    → Adds n f (times_generator s k f)
times_adds s k empty n g h = omega (arith, single_adds s k)
times_adds s zero (level b a f) n g h = omega (arith, x0_adds s (level b a f))
times_adds s (suc k) (level b a f) zero g h = absurd (omega arith)
times_adds s (suc k) (level b a f) (suc n) g h =
    omega (
      arith,
      reduce_level_size b a (times_generator s (k + b) f),
      times_adds s (k + b) f n (omega arith) (omega arith),
    )

-- It adds at most one to the sum of the exponents.
pub times_sum : (s : Side) (k : ℕ) (f : Form) → exponent_sum (times_generator s k f) ≤ suc (exponent_sum f)
times_sum s k f =
    (times_adds s k f (suc (levels f) + suc (k + exponent_sum f)) (omega arith) (omega arith)).sum

letter_adds : (x : Letter) (f : Form) (n : ℕ) → levels f ≤ suc n → exponent_sum f ≤ n
    → Adds (suc (suc n)) f (times_letter x f)
letter_adds 'a f n g h = times_adds b_side 0 f (suc (suc n)) (omega arith) (omega arith)
letter_adds 'A f n g h = times_adds a_side 0 f (suc (suc n)) (omega arith) (omega arith)
letter_adds 'b f n g h = times_adds b_side 1 f (suc (suc n)) (omega arith) (omega arith)
letter_adds 'B f n g h = times_adds a_side 1 f (suc (suc n)) (omega arith) (omega arith)

form_size : (w : Word) → (exponent_sum (form_of w) ≤ length w) × (levels (form_of w) ≤ suc (length w))
form_size [] = omega arith
form_size (x ∷ w) = add (form_size w)
  where
    add : (exponent_sum (form_of w) ≤ length w) × (levels (form_of w) ≤ suc (length w))
        → (exponent_sum (form_of (x ∷ w)) ≤ suc (length w)) × (levels (form_of (x ∷ w)) ≤ suc (suc (length w)))
    add h = omega (arith, letter_adds x (form_of w) (length w) h.1 h.0)

-- The exponents of a word's form sum to at most the number of its letters.
pub form_sum : (w : Word) → exponent_sum (form_of w) ≤ length w
form_sum w = (form_size w).0

pub form_levels : (w : Word) → levels (form_of w) ≤ suc (length w)
form_levels w = (form_size w).1

-- Behind the last level all exponents are 0.
pub exponent-behind : (s : Side) (f : Form) (i : ℕ) → levels f ≤ i → exponent s f i ≡ 0
exponent-behind s empty i h = refl
exponent-behind s (level b a f) zero h = absurd (omega arith)
exponent-behind s (level b a f) (suc i) h = exponent-behind s f i (omega arith)

-- No index above the number of letters occurs.
pub form_index : (w : Word) (s : Side) (i : ℕ) → length w < i → exponent s (form_of w) i ≡ 0
form_index w s i h = exponent-behind s (form_of w) i (omega (arith, form_levels w))

-- Where no index from n on occurs, a trimmed form has at most n levels.
pub trimmed_levels : (f : Form) (n : ℕ) → Trimmed f → ((s : Side) (i : ℕ) → n ≤ i → exponent s f i ≡ 0) → levels f ≤ n
trimmed_levels empty n t h = omega arith
trimmed_levels (level b a f) zero t h =
    absurd (omega (arith, ap levels (trimmed_equal (level b a f) empty t tt (λ s i. h s i (omega arith)))))
trimmed_levels (level b a f) (suc n) t h =
    omega (arith, trimmed_levels f n (trimmed_above b a f t) (λ s i p. h s (suc i) (omega arith)))

-- The last level of a trimmed form has an exponent above 0.
pub trimmed_last : (f : Form) (n : ℕ) → Trimmed f → levels f ≡ suc n → (s : Side) × (0 < exponent s f n)
trimmed_last empty n t e = absurd (omega (arith, e))
trimmed_last (level b a empty) zero t e = some b a t
  where
    some : (c d : ℕ) → 0 < c + d → (s : Side) × (0 < exponent s (level c d empty) 0)
    some zero d h = (a_side, omega arith)
    some (suc c) d h = (b_side, omega arith)
trimmed_last (level b a empty) (suc n) t e = absurd (omega (arith, e))
trimmed_last (level b a (level c d f)) zero t e = absurd (omega (arith, e))
trimmed_last (level b a (level c d f)) (suc n) t e = trimmed_last (level c d f) n t (omega (arith, e))
