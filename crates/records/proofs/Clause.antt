-- The reduced form's clause, tested index by index.
--     Judged f i k   of k indices from i on none breaks the clause, or the first that does is known
--     Checked f m    the same of all indices, where those that occur are below m
-- Assumes nothing.
use mathlib.Core.Path.{◌≡◌, refl, sym, ◌∙◌, ap}
use mathlib.Core.Bool.{Bool, true, false, cond, true≢false}
use mathlib.Core.Logic.{inl, inr}
use Prim.Native.Nat.{ℕ, zero, suc, ◌+◌, ◌<◌, ◌≤◌}
use native.Mathlib.Decide.{dec_lt, ℕ_discrete}
use native.Mathlib.Omega.{arith}
use lib.Dec.{eqb, ltb}
use borrow.Author.Tests.{ltb-true, eqb-true, lt-ltb, eq-eqb}
use Rattle.group.specs.Forms.{Side, b_side, a_side, Form, exponent}
use Rattle.group.specs.Reducing.{Occurs, Reduced, Applies}
use Rattle.refusals.specs.Outcomes.{accepted, refused}
use Rattle.clause.specs.Clause.{breaks, find_break}
use Rattle.records.proofs.Tests.{both_left, both_right_lem, true_both}

on_sides : (P : Side → Type 0) → P b_side → P a_side → (s : Side) → P s
on_sides P b a b_side = b
on_sides P b a a_side = a

breaks→applies : (f : Form) (i : ℕ) → breaks f i ≡ true → Applies i f
breaks→applies f i h =
    let p = both_right_lem (ltb 0 (exponent b_side f i)) _ h in
    let q = both_right_lem (ltb 0 (exponent a_side f i)) _ p in
    record {
      here =
          on_sides (λ s. 0 < exponent s f i)
          (ltb-true 0 (exponent b_side f i) (both_left (ltb 0 (exponent b_side f i)) _ h))
          (ltb-true 0 (exponent a_side f i) (both_left (ltb 0 (exponent a_side f i)) _ p));
      next =
          on_sides (λ s. exponent s f (suc i) ≡ 0)
          (eqb-true (exponent b_side f (suc i)) 0 (both_left (eqb (exponent b_side f (suc i)) 0) _ q))
          (eqb-true (exponent a_side f (suc i)) 0 (both_right_lem (eqb (exponent b_side f (suc i)) 0) _ q));
    }

applies→breaks : (f : Form) (i : ℕ) → Applies i f → breaks f i ≡ true
applies→breaks f i h =
    true_both (ltb 0 (exponent b_side f i)) _ (lt-ltb 0 (exponent b_side f i) (h.here b_side))
    (true_both (ltb 0 (exponent a_side f i)) _ (lt-ltb 0 (exponent a_side f i) (h.here a_side))
    (true_both (eqb (exponent b_side f (suc i)) 0) (eqb (exponent a_side f (suc i)) 0)
    (eq-eqb (exponent b_side f (suc i)) 0 (h.next b_side)) (eq-eqb (exponent a_side f (suc i)) 0 (h.next a_side))))

-- A form is reduced just where no index breaks the clause.
pub applies_reduced : (f : Form) (i : ℕ) → Reduced f → Applies i f → ⊥
applies_reduced f i r h = occurs (r i (h.here a_side) (h.here b_side))
  where
    occurs : Occurs f (suc i) → ⊥
    occurs (inl g) = omega (arith, h.next a_side)
    occurs (inr g) = omega (arith, h.next b_side)

pub reduced_applies : (f : Form) → ((i : ℕ) → Applies i f → ⊥) → Reduced f
reduced_applies f n i p q = occurs (dec_lt 0 (exponent a_side f (suc i))) (dec_lt 0 (exponent b_side f (suc i)))
  where
    occurs : Dec (0 < exponent a_side f (suc i)) → Dec (0 < exponent b_side f (suc i)) → Occurs f (suc i)
    occurs (yes x) y = inl x
    occurs (no x) (yes y) = inr y
    occurs (no x) (no y) =
        absurd
        (n i
        (record {
          here = on_sides (λ s. 0 < exponent s f i) q p;
          next = on_sides (λ s. exponent s f (suc i) ≡ 0) (omega arith) (omega arith);
        }))

data Judged (f : Form) (i k : ℕ) : Type 0 where
  keeps : ((j : ℕ) → i ≤ j → j < i + k → Applies j f → ⊥) → find_break f i k ≡ accepted f → Judged f i k
  fails : (place : ℕ) → i ≤ place → place < i + k → Applies place f
      → ((j : ℕ) → i ≤ j → j < place → Applies j f → ⊥) → find_break f i k ≡ refused 5 place → Judged f i k

judged : (f : Form) (k i : ℕ) → Judged f i k
unfolding find_break
judged f zero i = keeps (λ j p q h. omega arith) refl
judged f (suc k) i = test (breaks f i) refl (judged f k (suc i))
  where
    goes : {b : Bool} → breaks f i ≡ b → find_break f i (suc k) ≡ cond b (refused 5 i) (find_break f (suc i) k)
    goes q = ap (λ (b : Bool). cond b (refused 5 i) (find_break f (suc i) k)) q

    -- An index from i on: i itself, or a later one.
    split : breaks f i ≡ false → (j : ℕ) → i ≤ j → Applies j f → suc i ≤ j
    split q j h a = later (ℕ_discrete i j)
      where
        later : Dec (i ≡ j) → suc i ≤ j
        later (yes e) = absurd (true≢false (sym (applies→breaks f i (rw e a)) ∙ q))
        later (no n) = omega (arith, n)

    test : (b : Bool) → breaks f i ≡ b → Judged f (suc i) k → Judged f i (suc k)
    test true q rest =
        fails i (omega arith) (omega arith) (breaks→applies f i q) (λ j g h a. omega arith) (goes q)
    test false q (keeps n w) = keeps (λ j g h a. n j (split q j g a) (omega arith) a) (goes q ∙ w)
    test false q (fails place g h a n w) =
        fails place (omega arith) (omega arith) a (λ j x y z. n j (split q j x z) y z) (goes q ∙ w)

pub data Checked (f : Form) (m : ℕ) : Type 0 where
  whole : ((i : ℕ) → Applies i f → ⊥) → find_break f 0 m ≡ accepted f → Checked f m
  broken : (place : ℕ) → Applies place f → ((i : ℕ) → i < place → Applies i f → ⊥) → find_break f 0 m ≡ refused 5 place
      → Checked f m

pub checked : (f : Form) (m : ℕ) → ((i : ℕ) → 0 < exponent b_side f i → i < m) → Checked f m
checked f m low = all (judged f m 0)
  where
    all : Judged f 0 m → Checked f m
    all (keeps n w) = whole (λ i a. n i (omega arith) (omega (arith, low i (a.here b_side))) a) w
    all (fails place g h a n w) = broken place a (λ i x. n i (omega arith) x) w
