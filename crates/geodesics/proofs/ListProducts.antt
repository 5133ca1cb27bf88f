-- x_k or its inverse in front of a reduced form, on its two lists of exponents (000, section 2.4.2, rules 4; 01, 'The
-- reduced form'): the product has no other reducing step than the one at the place itself.
--     Reads h f   the form h has the exponents of the lists f, its a side those of the first list
-- Assumes nothing.
use mathlib.Core.Path.{◌≡◌, refl, sym, ◌∙◌}
use mathlib.Core.List.{List, [], ◌∷◌}
use mathlib.Core.Logic.{inl, inr}
use Prim.Native.Nat.{ℕ, zero, suc, ◌+◌, ◌<◌}
use native.Mathlib.Omega.{arith}
use lib.ListN.{get_or}
use Rattle.group.specs.Forms.{Side, b_side, a_side, Form, empty, level, exponent, exponents, SameExponents}
use Rattle.group.specs.Reducing.{Occurs, Reduced}
use Rattle.group.specs.Products.{reduce_level, times_x0, single, times_generator}
use Rattle.group.proofs.Exponents.{exponents_at}
use Rattle.group.proofs.LevelProducts.{reduce_level_same}
use Rattle.geodesics.specs.Rows.{first}
use Rattle.geodesics.proofs.Sides.{Sides, sides, level_on, put_inverse, put_x0, Rule, at_zeros, at_tree, at_suc}

-- The exponents of a form, its sides exchanged, are those of two lists.
pub record Reads (h : Form) (f : Sides) : Type 0 where
  pub on_a : (i : ℕ) → exponent a_side h i ≡ get_or f.b i 0
  pub on_b : (i : ℕ) → exponent b_side h i ≡ get_or f.a i 0

-- The lists of a form with its sides exchanged.
abbrev pub turned : Form → Sides
turned f = sides (exponents a_side f) (exponents b_side f)

reads_turned : (f : Form) → Reads f (turned f)
reads_turned f = record { on_a = λ i. sym (exponents_at a_side f i); on_b = λ i. sym (exponents_at b_side f i) }

reads_same : (h g : Form) (f : Sides) → SameExponents h g → Reads g f → Reads h f
reads_same h g f e r = record { on_a = λ i. e a_side i ∙ r.on_a i; on_b = λ i. e b_side i ∙ r.on_b i }

reads_level : (b a : ℕ) (h : Form) (f : Sides) → Reads h f → Reads (level b a h) (level_on a b f)
reads_level b a h f r = record { on_a = on_a; on_b = on_b }
  where
    on_a : (i : ℕ) → exponent a_side (level b a h) i ≡ get_or (a ∷ f.b) i 0
    on_a zero = refl
    on_a (suc i) = r.on_a i

    on_b : (i : ℕ) → exponent b_side (level b a h) i ≡ get_or (b ∷ f.a) i 0
    on_b zero = refl
    on_b (suc i) = r.on_b i

-- A level where no reducing step applies.
reads_reduce : (b a : ℕ) (h : Form) (f : Sides)
    → (0 < b → 0 < a → 0 < exponent b_side h 0 + exponent a_side h 0)
    → Reads h f → Reads (reduce_level b a h) (level_on a b f)
reads_reduce b a h f c r =
    reads_same (reduce_level b a h) (level b a h) (level_on a b f) (reduce_level_same b a h c) (reads_level b a h f r)

occurs_sum : (f : Form) → Occurs f 0 → 0 < exponent b_side f 0 + exponent a_side f 0
occurs_sum f (inl h) = omega arith
occurs_sum f (inr h) = omega arith

-- x_0⁻¹ in front, and x_0 in front.
x0_inverse_reads : (g : Form) → Reduced g → Reads (times_x0 a_side g) (put_x0 (exponents a_side g) (exponents b_side g))
x0_inverse_reads empty r = record { on_a = on_a; on_b = on_b }
  where
    on_a : (i : ℕ) → exponent a_side (level 0 1 empty) i ≡ get_or (1 ∷ 0 ∷ []) i 0
    on_a zero = refl
    on_a (suc zero) = refl
    on_a (suc (suc i)) = refl

    on_b : (i : ℕ) → exponent b_side (level 0 1 empty) i ≡ get_or (0 ∷ 0 ∷ []) i 0
    on_b zero = refl
    on_b (suc zero) = refl
    on_b (suc (suc i)) = refl
x0_inverse_reads (level zero a f) r =
    reads_level 0 (suc a) (reduce_level 0 0 f) (level_on 0 0 (turned f))
    (reads_reduce 0 0 f (turned f) (λ p q. absurd (omega arith)) (reads_turned f))
x0_inverse_reads (level (suc b) a f) r =
    reads_reduce b a f (turned f) (λ p q. occurs_sum f (r 0 q (omega arith))) (reads_turned f)

x0_reads : (g : Form) → Reduced g → Reads (times_x0 b_side g) (put_inverse (exponents a_side g) (exponents b_side g))
x0_reads empty r = record { on_a = on_a; on_b = on_b }
  where
    on_a : (i : ℕ) → exponent a_side (level 1 0 empty) i ≡ get_or [] i 0
    on_a zero = refl
    on_a (suc i) = refl

    on_b : (i : ℕ) → exponent b_side (level 1 0 empty) i ≡ get_or (1 ∷ []) i 0
    on_b zero = refl
    on_b (suc i) = refl
x0_reads (level (suc b) a f) r =
    reads_reduce (suc (suc b)) a f (turned f) (λ p q. occurs_sum f (r 0 q (omega arith))) (reads_turned f)
x0_reads (level zero zero f) r = reads_level 1 0 f (turned f) (reads_turned f)
x0_reads (level zero (suc a) empty) r =
    reads_reduce 0 a empty (turned empty) (λ p q. absurd (omega arith)) (reads_turned empty)
x0_reads (level zero (suc a) (level zero zero f)) r =
    reads_reduce 0 a f (turned f) (λ p q. absurd (omega arith)) (reads_turned f)
x0_reads (level zero (suc a) (level zero (suc d) f)) r =
    reads_level 1 (suc a) (level 0 (suc d) f) (turned (level 0 (suc d) f)) (reads_turned (level 0 (suc d) f))
x0_reads (level zero (suc a) (level (suc c) zero f)) r =
    reads_level 1 (suc a) (level (suc c) 0 f) (turned (level (suc c) 0 f)) (reads_turned (level (suc c) 0 f))
x0_reads (level zero (suc a) (level (suc c) (suc d) f)) r =
    reads_level 1 (suc a) (level (suc c) (suc d) f) (turned (level (suc c) (suc d) f))
    (reads_turned (level (suc c) (suc d) f))

-- The rule of x_0⁻¹ in front, and of x_0 in front.
abbrev rule_of : Side → Rule
rule_of a_side = put_x0
rule_of b_side = put_inverse

rule_reads : (s : Side) (g : Form) → Reduced g → Reads (times_x0 s g) (rule_of s (exponents a_side g) (exponents b_side g))
rule_reads a_side g r = x0_inverse_reads g r
rule_reads b_side g r = x0_reads g r

empty_reduced : Reduced empty
empty_reduced i x y = absurd (omega arith)

single_reads : (s : Side) (k : ℕ) → Reads (single s k) (at_zeros k (rule_of s) [])
single_reads s zero = rule_reads s empty empty_reduced
single_reads s (suc k) =
    reads_reduce 0 0 (single s k) (at_zeros k (rule_of s) []) (λ p q. absurd (omega arith)) (single_reads s k)

-- A rule at an index above 0 leaves the first level.
first-kept : (g : Rule) (r : ℕ) (bs cs : List ℕ) → 0 < r
    → (get_or (at_tree r g bs cs).b 0 0 ≡ first bs) × (get_or (at_tree r g bs cs).a 0 0 ≡ first cs)
first-kept g zero bs cs h = absurd (omega arith)
first-kept g (suc r) bs cs h = rw (at_suc g r bs cs) (refl, refl)

first-exponent : (s : Side) (f : Form) → first (exponents s f) ≡ exponent s f 0
first-exponent s empty = refl
first-exponent s (level b a f) = refl

-- So above a level with both exponents above 0 the level stays above 0 in one of them.
kept_above : (s : Side) (r : ℕ) (f h : Form) → 0 < r → Occurs f 0
    → Reads h (at_tree r (rule_of s) (exponents a_side f) (exponents b_side f))
    → 0 < exponent b_side h 0 + exponent a_side h 0
kept_above s r f h p o ih =
    let e = first-kept (rule_of s) r (exponents a_side f) (exponents b_side f) p in
    omega (
      arith,
      occurs_sum f o,
      ih.on_a 0,
      ih.on_b 0,
      e.0,
      e.1,
      first-exponent a_side f,
      first-exponent b_side f,
    )

-- x_k or its inverse in front.
pub times_reads : (s : Side) (k : ℕ) (g : Form) → Reduced g
    → Reads (times_generator s k g) (at_tree k (rule_of s) (exponents a_side g) (exponents b_side g))
times_reads s k empty r = single_reads s k
times_reads s zero (level b a f) r = rule_reads s (level b a f) r
times_reads s (suc k) (level b a f) r = go (times_reads s (k + b) f (λ i. r (suc i)))
  where
    next : Sides
    next = at_tree (k + b) (rule_of s) (exponents a_side f) (exponents b_side f)

    go : Reads (times_generator s (k + b) f) next
        → Reads (reduce_level b a (times_generator s (k + b) f)) (level_on a b next)
    go ih =
        reads_reduce b a (times_generator s (k + b) f) next
        (λ p q. kept_above s (k + b) f (times_generator s (k + b) f) (omega arith) (r 0 q p) ih) ih
