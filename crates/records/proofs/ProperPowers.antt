-- Lists of powers as a side of a record has them: their exponents determine them.
--     total ps        the sum of the exponents
-- Assumes nothing.
use mathlib.Core.Path.{◌≡◌, refl, sym, ◌∙◌}
use mathlib.Core.List.{List, [], ◌∷◌}
use Prim.Native.Nat.{ℕ, zero, suc, ◌+◌, ◌<◌, ◌≤◌}
use native.Mathlib.Decide.{dec_lt, ℕ_discrete}
use native.Mathlib.Omega.{arith}
use lib.ListN.{get_or}
use borrow.Author.Tests.{eq-eqb, ne_eqb}
use Rattle.group.specs.Limits.{limit}
use Rattle.records.specs.Format.{Power, power, put_power, powers}
use Rattle.records.specs.Reading.{exponent_at}
use Rattle.records.specs.inside.Steps.{Proper}

abbrev pub total : List Power → ℕ
total [] = 0
total (power i e ∷ ps) = e + total ps

pub proper_lower : (ps : List Power) (low high : ℕ) → low ≤ high → Proper high ps → Proper low ps
proper_lower [] low high h r = tt
proper_lower (power i e ∷ ps) low high h r = (omega arith, r.1, r.2, r.3)

pub at_index : (i e k : ℕ) (ps : List Power) → i ≡ k → exponent_at (power i e ∷ ps) k ≡ e
at_index i e k ps h = rw (eq-eqb i k h) refl

pub at_other : (i e k : ℕ) (ps : List Power) → (i ≡ k → ⊥) → exponent_at (power i e ∷ ps) k ≡ exponent_at ps k
at_other i e k ps h = rw (ne_eqb i k h) refl

-- An index below the first or above the limit has exponent 0.
pub at_below : (ps : List Power) (low k : ℕ) → Proper low ps → k < low → exponent_at ps k ≡ 0
at_below [] low k r h = refl
at_below (power i e ∷ ps) low k r h =
    at_other i e k ps (omega (arith, r.0)) ∙ at_below ps (suc i) k r.3 (omega (arith, r.0))

pub at_above : (ps : List Power) (low k : ℕ) → Proper low ps → limit < k → exponent_at ps k ≡ 0
at_above [] low k r h = refl
at_above (power i e ∷ ps) low k r h = at_other i e k ps (omega (arith, r.1)) ∙ at_above ps (suc i) k r.3 h

-- Proper powers with the same exponents are equal.
pub proper_equal : (ps qs : List Power) (low from : ℕ) → Proper low ps → Proper from qs
    → ((k : ℕ) → exponent_at ps k ≡ exponent_at qs k) → ps ≡ qs
proper_equal [] [] low from r q h = refl
proper_equal [] (power j d ∷ qs) low from r q h = absurd (omega (arith, h j, at_index j d j qs refl, q.2))
proper_equal (power i e ∷ ps) [] low from r q h = absurd (omega (arith, h i, at_index i e i ps refl, r.2))
proper_equal (power i e ∷ ps) (power j d ∷ qs) low from r q h =
    first (dec_lt i j) (dec_lt j i) (proper_equal ps qs (suc i) (suc j) r.3 q.3)
  where
    -- Where the first indices are equal, the other exponents are equal.
    others : i ≡ j → (k : ℕ) → Dec (i ≡ k) → exponent_at ps k ≡ exponent_at qs k
    others x k (yes y) =
        at_below ps (suc i) k r.3 (omega arith) ∙ sym (at_below qs (suc j) k q.3 (omega arith))
    others x k (no y) = sym (at_other i e k ps y) ∙ h k ∙ at_other j d k qs (omega (arith, y))

    first : Dec (i < j) → Dec (j < i) → (((k : ℕ) → exponent_at ps k ≡ exponent_at qs k) → ps ≡ qs)
        → ◌≡◌ {A = List Power} (power i e ∷ ps) (power j d ∷ qs)
    first (yes x) y rest =
        let zero_at = at_below (power j d ∷ qs) j i (omega arith, q.1, q.2, q.3) x in
        absurd (omega (arith, h i, at_index i e i ps refl, r.2))
    first (no x) (yes y) rest =
        let zero_at = at_below (power i e ∷ ps) i j (omega arith, r.1, r.2, r.3) y in
        absurd (omega (arith, h j, at_index j d j qs refl, q.2))
    first (no x) (no y) rest =
        let same : i ≡ j = omega arith in
        let exponents : e ≡ d = sym (at_index i e i ps refl) ∙ h i ∙ at_index j d i qs (sym same) in
        let tails : ps ≡ qs = rest (λ k. others same k (ℕ_discrete i k)) in
        cc

-- The powers of a list of exponents, read at an index.
powers-below : (t : List ℕ) (i k : ℕ) → k < i → exponent_at (powers i t) k ≡ 0
powers-below [] i k h = refl
powers-below (zero ∷ t) i k h = powers-below t (suc i) k (omega arith)
powers-below (suc e ∷ t) i k h =
    at_other i (suc e) k (powers (suc i) t) (omega arith) ∙ powers-below t (suc i) k (omega arith)

pub powers_at : (t : List ℕ) (i j k : ℕ) → k ≡ i + j → exponent_at (powers i t) k ≡ get_or t j 0
powers_at [] i j k h = refl
powers_at (zero ∷ t) i zero k h = powers-below t (suc i) k (omega arith)
powers_at (suc e ∷ t) i zero k h = at_index i (suc e) k (powers (suc i) t) (omega arith)
powers_at (zero ∷ t) i (suc j) k h = powers_at t (suc i) j k (omega arith)
powers_at (suc e ∷ t) i (suc j) k h =
    at_other i (suc e) k (powers (suc i) t) (omega arith) ∙ powers_at t (suc i) j k (omega arith)

-- The powers of exponents that are 0 above the limit are proper.
pub powers_proper : (t : List ℕ) (i : ℕ) → ((j k : ℕ) → k ≡ i + j → 0 < get_or t j 0 → k ≤ limit)
    → Proper i (powers i t)
powers_proper [] i h = tt
powers_proper (zero ∷ t) i h =
    proper_lower (powers (suc i) t) i (suc i) (omega arith)
    (powers_proper t (suc i) (λ j k e g. h (suc j) k (omega arith) g))
powers_proper (suc e ∷ t) i h = (
  omega arith,
  h 0 i (omega arith) (omega arith),
  omega arith,
  powers_proper t (suc i) (λ j k x g. h (suc j) k (omega arith) g),
)

pub total_put : (i e : ℕ) (ps : List Power) → total (put_power i e ps) ≡ e + total ps
total_put i zero ps = omega arith
total_put i (suc e) ps = refl
