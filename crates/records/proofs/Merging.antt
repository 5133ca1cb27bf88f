-- The reduced form's clause by the powers of two sides, the lower index first: which index breaks it first.
--     Breaks p q k     the index k breaks the clause, by the exponents of the powers p and q
--     Merged p q o     the first index that does, or none
-- Assumes nothing.
use mathlib.Core.Path.{◌≡◌, refl, sym, subst, ◌∙◌}
use mathlib.Core.Bool.{true, false, true≢false}
use mathlib.Core.List.{List, [], ◌∷◌}
use mathlib.Core.Option.{Option, none, some}
use Prim.Native.Nat.{ℕ, suc, ◌<◌, ◌≤◌}
use native.Mathlib.Omega.{arith}
use native.Mathlib.Decide.{dec_le}
use borrow.Author.Tests.{eqb-true, eqb-false}
use Rattle.records.specs.Format.{Power, power}
use Rattle.records.specs.Reading.{exponent_at}
use Rattle.records.specs.inside.Steps.{Proper}
use Rattle.records.specs.inside.Walking.{starts}
use Rattle.records.proofs.ProperPowers.{at_index, at_other, at_below}

-- It is on both sides, and the next one is on neither.
pub record Breaks (p q : List Power) (k : ℕ) : Type 0 where
  pub b : 0 < exponent_at p k
  pub a : 0 < exponent_at q k
  pub b_next : exponent_at p (suc k) ≡ 0
  pub a_next : exponent_at q (suc k) ≡ 0

pub data Merged (p q : List Power) : Option ℕ → Type 0 where
  clear : ((k : ℕ) → Breaks p q k → ⊥) → Merged p q none
  first : (i : ℕ) → Breaks p q i → ((k : ℕ) → k < i → Breaks p q k → ⊥) → Merged p q (some i)

-- Sides whose breaks are the same.
along : {p q r s : List Power} {o : Option ℕ} → ((k : ℕ) → Breaks r s k → Breaks p q k)
    → ((k : ℕ) → Breaks p q k → Breaks r s k) → Merged p q o → Merged r s o
along to from (clear n) = clear (λ k h. n k (to k h))
along to from (first i h n) = first i (from i h) (λ k l g. n k l (to k g))

-- The same exponents at an index and the next.
same_breaks : (p q r s : List Power) (k : ℕ) → exponent_at p k ≡ exponent_at r k
    → exponent_at p (suc k) ≡ exponent_at r (suc k) → exponent_at q k ≡ exponent_at s k
    → exponent_at q (suc k) ≡ exponent_at s (suc k) → Breaks p q k → Breaks r s k
same_breaks p q r s k x y z w h = record {
  b = omega (arith, h.b, x);
  a = omega (arith, h.a, z);
  b_next = sym y ∙ h.b_next;
  a_next = sym w ∙ h.a_next;
}

-- An index that occurs among powers is at least as high as the lowest.
pub occurs_high : (p : List Power) (low k : ℕ) → Proper low p → 0 < exponent_at p k → low ≤ k
occurs_high p low k r h = go (dec_le low k)
  where
    go : Dec (low ≤ k) → low ≤ k
    go (yes g) = g
    go (no g) = absurd (omega (arith, at_below p low k r (omega (arith, g)), h))

-- A power in front does not matter at a higher index.
higher : (i e k : ℕ) (p : List Power) → i < k → exponent_at (power i e ∷ p) k ≡ exponent_at p k
higher i e k p h = at_other i e k p (λ x. omega (arith, x))

-- The sides exchanged.
turned : (p q : List Power) (k : ℕ) → Breaks p q k → Breaks q p k
turned p q k h = record { b = h.a; a = h.b; b_next = h.a_next; a_next = h.b_next }

turned_merged : (p q : List Power) {o : Option ℕ} → Merged p q o → Merged q p o
turned_merged p q m = along (turned q p) (turned p q) m

-- A power of the b side whose index is below all of the a side is passed.
module _ (i e j : ℕ) (p q : List Power) (r : Proper j q) (lt : i < j) where
  skip_b : (k : ℕ) → Breaks (power i e ∷ p) q k → Breaks p q k
  skip_b k h =
      let g : i < k = omega (arith, occurs_high q j k r h.a, lt) in
      same_breaks (power i e ∷ p) q p q k (higher i e k p g) (higher i e (suc k) p (omega arith)) refl refl h

  keep_b : (k : ℕ) → Breaks p q k → Breaks (power i e ∷ p) q k
  keep_b k h =
      let g : i < k = omega (arith, occurs_high q j k r h.a, lt) in
      same_breaks p q (power i e ∷ p) q k
      (sym (higher i e k p g)) (sym (higher i e (suc k) p (omega arith))) refl refl h

  pub merge_left : {o : Option ℕ} → Merged p q o → Merged (power i e ∷ p) q o
  merge_left m = along skip_b keep_b m

-- So is one of the a side.
pub merge_right : (i j d : ℕ) (p q : List Power) → Proper i p → j < i → {o : Option ℕ} → Merged p q o
    → Merged p (power j d ∷ q) o
merge_right i j d p q r lt m =
    turned_merged (power j d ∷ q) p (merge_left j d i q p r lt (turned_merged p q m))

-- One index on both sides, in front of higher ones.
module _ (i e d : ℕ) (p q : List Power) (pp : Proper (suc i) p) (pq : Proper (suc i) q) where
  both_keep : (k : ℕ) → Breaks p q k → Breaks (power i e ∷ p) (power i d ∷ q) k
  both_keep k h =
      let g : i < k = occurs_high p (suc i) k pp h.b in
      same_breaks p q (power i e ∷ p) (power i d ∷ q) k (sym (higher i e k p g)) (sym (higher i e (suc k) p (omega
      arith))) (sym (higher i d k q g)) (sym (higher i d (suc k) q (omega arith))) h

  -- A break of both, not at i, is one of the others.
  both_skip : (k : ℕ) → (i ≡ k → ⊥) → Breaks (power i e ∷ p) (power i d ∷ q) k → Breaks p q k
  both_skip k n h =
      let g : i < k = occurs_high p (suc i) k pp (omega (arith, h.b, at_other i e k p n)) in
      same_breaks (power i e ∷ p) (power i d ∷ q) p q k (higher i e k p g) (higher i e (suc k) p (omega arith))
      (higher i d k q g) (higher i d (suc k) q (omega arith)) h

  -- Both are passed where they do not break the clause.
  pub merge_both : (Breaks (power i e ∷ p) (power i d ∷ q) i → ⊥) → {o : Option ℕ} → Merged p q o
      → Merged (power i e ∷ p) (power i d ∷ q) o
  merge_both n m = along (λ k h. both_skip k (not_here k h) h) both_keep m
    where
      not_here : (k : ℕ) → Breaks (power i e ∷ p) (power i d ∷ q) k → i ≡ k → ⊥
      not_here k h x = n (subst (λ (z : ℕ). Breaks (power i e ∷ p) (power i d ∷ q) z) (sym x) h)

  -- They do not where a side goes on with the next index.
  pub next_b : 0 < exponent_at p (suc i) → Breaks (power i e ∷ p) (power i d ∷ q) i → ⊥
  next_b g h = omega (arith, g, h.b_next, higher i e (suc i) p (omega arith))

  pub next_a : 0 < exponent_at q (suc i) → Breaks (power i e ∷ p) (power i d ∷ q) i → ⊥
  next_a g h = omega (arith, g, h.a_next, higher i d (suc i) q (omega arith))

  -- They do where neither side does.
  pub merge_here : 0 < e → 0 < d → exponent_at p (suc i) ≡ 0 → exponent_at q (suc i) ≡ 0
      → Merged (power i e ∷ p) (power i d ∷ q) (some i)
  merge_here pe pd np nq =
      first i
      record {
        b = omega (arith, at_index i e i p refl, pe);
        a = omega (arith, at_index i d i q refl, pd);
        b_next = higher i e (suc i) p (omega arith) ∙ np;
        a_next = higher i d (suc i) q (omega arith) ∙ nq;
      }
      (λ k lt h.
      omega
      (arith, h.b, at_other i e k p (λ x. omega (arith, x, lt)), at_below p (suc i) k pp (omega (arith, lt))))

-- The next index stands first, or not at all.
pub start_next : (k low : ℕ) (ps : List Power) → Proper low ps → starts k ps ≡ true → 0 < exponent_at ps k
start_next k low [] r h = absurd (true≢false (sym h))
start_next k low (power i e ∷ ps) r h = omega (arith, at_index i e k ps (eqb-true i k h), r.2)

pub no_start : (k : ℕ) (ps : List Power) → Proper k ps → starts k ps ≡ false → exponent_at ps k ≡ 0
no_start k [] r h = refl
no_start k (power i e ∷ ps) r h =
    let n = eqb-false i k h in
    at_other i e k ps n ∙ at_below ps (suc i) k r.3 (omega (arith, r.0, n))

-- Where a side has no power, nothing breaks the clause.
pub merge_no_b : (q : List Power) → Merged [] q none
merge_no_b q = clear (λ k h. omega (arith, h.b))

pub merge_no_a : (p : List Power) → Merged p [] none
merge_no_a p = clear (λ k h. omega (arith, h.a))
