-- Laws of runs: the runs of a form are those of its exponents up to any index above which no exponent is (01, 'What the
-- desk can be asked', record to word). Assumes nothing.
use mathlib.Core.Path.{◌≡◌, refl, sym, ◌∙◌, ap, ap₂}
use mathlib.Core.List.{List, [], ◌++◌}
use Prim.Native.Nat.{ℕ, zero, suc, ◌+◌, ◌<◌, ◌≤◌}
use native.Mathlib.Omega.{arith}
use Rattle.group.specs.Letters.{Letter, 'b, 'B}
use Rattle.group.specs.Forms.{b_side, a_side, Form, exponent, levels}
use Rattle.group.proofs.Sizes.{exponent-behind}
use Rattle.spelling.specs.Runs.{Run, put_run, rising, falling, runs_up_to}
use Rattle.spelling.specs.Spelling.{runs}

-- A run in front of others, and further runs behind them.
pub put_append : (k : ℕ) (x : Letter) (e : ℕ) (l r : List Run) → put_run k x e l ++ r ≡ put_run k x e (l ++ r)
put_append k x zero l r = refl
put_append k x (suc e) l r = refl

-- The runs of equal exponents.
rising_same : (m k : ℕ) (b c : ℕ → ℕ) → ((i : ℕ) → b i ≡ c i) → rising b k m ≡ rising c k m
rising_same zero k b c e = refl
rising_same (suc m) k b c e = ap₂ (put_run k 'b) (e (suc k)) (rising_same m (suc k) b c e)

falling_same : (m : ℕ) (a c : ℕ → ℕ) → ((i : ℕ) → a i ≡ c i) → falling a m ≡ falling c m
falling_same zero a c e = refl
falling_same (suc m) a c e = ap₂ (put_run m 'B) (e (suc m)) (falling_same m a c e)

-- Exponents 0 are no runs.
rising_none : (m k : ℕ) (b : ℕ → ℕ) → ((i : ℕ) → k < i → b i ≡ 0) → rising b k m ≡ []
rising_none zero k b z = refl
rising_none (suc m) k b z =
    ap₂ (put_run k 'b) (z (suc k) (omega arith)) (rising_none m (suc k) b (λ i h. z i (omega arith)))

-- Two numbers of indices, with exponents 0 above both.
rising_up_to : (m n k : ℕ) (b : ℕ → ℕ) → ((i : ℕ) → k + m < i → b i ≡ 0) → ((i : ℕ) → k + n < i → b i ≡ 0)
    → rising b k m ≡ rising b k n
rising_up_to zero n k b y z = sym (rising_none n k b (λ i h. y i (omega arith)))
rising_up_to (suc m) zero k b y z = rising_none (suc m) k b (λ i h. z i (omega arith))
rising_up_to (suc m) (suc n) k b y z =
    ap (put_run k 'b (b (suc k)))
    (rising_up_to m n (suc k) b (λ i h. y i (omega arith)) (λ i h. z i (omega arith)))

falling_more : (d m n : ℕ) (a : ℕ → ℕ) → n ≡ m + d → ((i : ℕ) → m < i → a i ≡ 0) → falling a n ≡ falling a m
falling_more zero m n a e z =
    let same : n ≡ m = omega arith in
    ap (falling a) same
falling_more (suc d) m zero a e z = absurd (omega arith)
falling_more (suc d) m (suc n) a e z =
    ap (λ (x : ℕ). put_run n 'B x (falling a n)) (z (suc n) (omega arith)) ∙ falling_more d m n a (omega arith) z

falling_up_to : (m n : ℕ) (a : ℕ → ℕ) → ((i : ℕ) → m < i → a i ≡ 0) → ((i : ℕ) → n < i → a i ≡ 0)
    → falling a m ≡ falling a n
falling_up_to m n a y z = sym (falling_more n m (m + n) a refl y) ∙ falling_more m n (m + n) a (omega arith) z

-- The runs of exponents that are those of a form, up to its last level or beyond.
pub runs_up_to_lem : (f : Form) (n : ℕ) (b a : ℕ → ℕ) → levels f ≤ suc n → ((i : ℕ) → b i ≡ exponent b_side f i)
    → ((i : ℕ) → a i ≡ exponent a_side f i) → runs_up_to n b a ≡ runs f
runs_up_to_lem f n b a h p q =
    ap₂ (λ l r. l ++ r)
    (rising_same n 0 b (exponent b_side f) p
    ∙ rising_up_to n (levels f) 0 (exponent b_side f)
    (λ i l. exponent-behind b_side f i (omega arith))
    (λ i l. exponent-behind b_side f i (omega arith)))
    (falling_same n a (exponent a_side f) q
    ∙ falling_up_to n (levels f) (exponent a_side f)
    (λ i l. exponent-behind a_side f i (omega arith))
    (λ i l. exponent-behind a_side f i (omega arith)))
