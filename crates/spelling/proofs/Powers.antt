-- The letters of a form and the word of its runs have the same freely reduced word: in a power of x_(k+1) the letters
-- between its b cancel, and between two powers letters a and A make a turn (01, 'What the desk can be asked', record to
-- word).
--     plain l w   the powers of runs, each x_(k+1)^e as A^k b^e a^k, and then w
-- Assumes nothing.
use mathlib.Core.Path.{◌≡◌, refl, sym, ◌∙◌, ap, ap₂}
use mathlib.Core.List.{List, [], ◌∷◌, ◌++◌, append_assoc}
use Prim.Native.Nat.{ℕ, zero, suc, ◌+◌}
use native.Mathlib.Omega.{arith}
use lib.ListN.{replicate}
use Rattle.lists.specs.Copies.{copies}
use Rattle.lists.proofs.Copies.{copies-single}
use Rattle.group.specs.Letters.{Letter, 'a, 'A, 'b, 'B, Word, inverse}
use Rattle.group.specs.Forms.{Side, b_side, a_side, Form, empty, level, generator, exponent, levels}
use Rattle.group.specs.Forms.{ascending, descending, letters}
use Rattle.group.proofs.Congruence.{≈_refl, ≈_sym, ≈_cons, ◌⟫◌, ≈_path, ≈_front, ≈_back}
use Rattle.group.proofs.Inverses.{inverse-append, inverse-replicate, cancel_behind, cancel_front}
use Rattle.group.proofs.FreeWords.{pair}
use Rattle.spelling.specs.Runs.{Run, run, put_run, rising, falling, runs_up_to}
use Rattle.spelling.specs.inside.RunLetters.{turn, spelt}
use Rattle.spelling.specs.inside.RunLetters.{run_spelling}
use Rattle.spelling.proofs.Runs.{runs_up_to_lem}
use Rattle.spelling.proofs.Turns.{◌~◌, turn_alone, turn_front}

-- The powers of runs, and then w.
abbrev plain : List Run → Word → Word
plain [] w = w
plain (run k x e ∷ l) w = replicate k 'A ++ (replicate e x ++ (replicate k 'a ++ plain l w))

plain_append : (l r : List Run) (w : Word) → plain (l ++ r) w ≡ plain l (plain r w)
plain_append [] r w = refl
plain_append (run k x e ∷ l) r w =
    ap (λ (u : Word). replicate k 'A ++ (replicate e x ++ (replicate k 'a ++ u))) (plain_append l r w)

-- Between powers letters a and A make turns.
plain_spelt : (l : List Run) (m n : ℕ) → (replicate m 'a ++ plain l (replicate n 'A)) ~ spelt m l n
plain_spelt [] m n = turn_alone m n
plain_spelt (run k x e ∷ l) m n =
    turn_front m k (replicate e x ++ (replicate k 'a ++ plain l (replicate n 'A)))
    ⟫ ≈_front (turn m k) (≈_front (replicate e x) (plain_spelt l k n))

-- Inside a power letters a and A cancel.
cancel_Aa : (k : ℕ) → (replicate k 'A ++ replicate k 'a) ~ []
cancel_Aa k =
    ≈_path (ap (λ (w : Word). replicate k 'A ++ w) (sym (inverse-replicate k 'A)))
    ⟫ cancel_behind pair (replicate k 'A)

cancel_aA : (k : ℕ) (t : Word) → (replicate k 'a ++ (replicate k 'A ++ t)) ~ t
cancel_aA k t =
    ≈_path (ap (λ (w : Word). w ++ (replicate k 'A ++ t)) (sym (inverse-replicate k 'A)))
    ⟫ cancel_front pair (replicate k 'A) t

power : (k : ℕ) (x : Letter) (e : ℕ)
    → copies e (replicate k 'A ++ (x ∷ replicate k 'a)) ~ (replicate k 'A ++ (replicate e x ++ replicate k 'a))
power k x zero = ≈_sym (cancel_Aa k)
power k x (suc e) =
    ≈_front (replicate k 'A ++ (x ∷ replicate k 'a)) (power k x e)
    ⟫ ≈_path
    (append_assoc (replicate k 'A) (x ∷ replicate k 'a) (replicate k 'A ++ (replicate e x ++ replicate k 'a)))
    ⟫ ≈_front (replicate k 'A) (≈_cons x (cancel_aA k (replicate e x ++ replicate k 'a)))

regroup : (p q r s : Word) → (p ++ (q ++ r)) ++ s ≡ p ++ (q ++ (r ++ s))
regroup p q r s = append_assoc p (q ++ r) s ∙ ap (λ (w : Word). p ++ w) (append_assoc q r s)

-- A power in front of others is a run in front of theirs.
plain_put : (k : ℕ) (x : Letter) (e : ℕ) (l : List Run) (w : Word)
    → (copies e (replicate k 'A ++ (x ∷ replicate k 'a)) ++ plain l w) ~ plain (put_run k x e l) w
plain_put k x zero l w = ≈_refl
plain_put k x (suc e) l w =
    ≈_back (power k x (suc e)) (plain l w)
    ⟫ ≈_path (regroup (replicate k 'A) (replicate (suc e) x) (replicate k 'a) (plain l w))

-- The b side of a form whose first level has index k + 1.
ascending_plain : (f : Form) (k : ℕ) (b : ℕ → ℕ) (w : Word)
    → ((i j : ℕ) → j ≡ suc (k + i) → b j ≡ exponent b_side f i)
    → (ascending (suc k) f ++ w) ~ plain (rising b k (levels f)) w
ascending_plain empty k b w h = ≈_refl
ascending_plain (level c d f) k b w h =
    ≈_path (append_assoc (copies c (generator (suc k))) (ascending (suc (suc k)) f) w)
    ⟫ ≈_front (copies c (generator (suc k))) (ascending_plain f (suc k) b w (λ i j e. h (suc i) j (omega arith)))
    ⟫ plain_put k 'b c (rising b (suc k) (levels f)) w
    ⟫ ≈_path
    (ap (λ (e : ℕ). plain (put_run k 'b e (rising b (suc k) (levels f))) w) (sym (h 0 (suc k) (omega arith))))

-- The inverse of x_(k+1) by letters.
inverse-generator : (k : ℕ) → inverse (generator (suc k)) ≡ replicate k 'A ++ ('B ∷ replicate k 'a)
inverse-generator k =
    inverse-append (replicate k 'A) ('b ∷ replicate k 'a)
    ∙ ap₂ (λ (u v : Word). (u ++ ('B ∷ [])) ++ v) (inverse-replicate k 'a) (inverse-replicate k 'A)
    ∙ append_assoc (replicate k 'A) ('B ∷ []) (replicate k 'a)

-- The a side, in front of the runs of the lower indices.
descending_plain : (f : Form) (k n : ℕ) (a : ℕ → ℕ) (w : Word) → n ≡ k + levels f
    → ((i j : ℕ) → j ≡ suc (k + i) → a j ≡ exponent a_side f i)
    → (descending (suc k) f ++ plain (falling a k) w) ~ plain (falling a n) w
descending_plain empty k n a w e h =
    let same : k ≡ n = omega arith in
    ≈_path (ap (λ (m : ℕ). plain (falling a m) w) same)
descending_plain (level c d f) k n a w e h =
    ≈_path
    (append_assoc (descending (suc (suc k)) f) (copies d (inverse (generator (suc k)))) (plain (falling a k) w)
    ∙ ap (λ (u : Word). descending (suc (suc k)) f ++ (copies d u ++ plain (falling a k) w)) (inverse-generator k))
    ⟫ ≈_front (descending (suc (suc k)) f)
    (plain_put k 'B d (falling a k) w
    ⟫ ≈_path (ap (λ (x : ℕ). plain (put_run k 'B x (falling a k)) w) (sym (h 0 (suc k) (omega arith)))))
    ⟫ descending_plain f (suc k) n a w (omega arith) (λ i j c. h (suc i) j (omega arith))

-- The levels above the first, between the powers of x_0.
letters_plain : (b a : ℕ → ℕ) (f : Form) (w : Word) → ((i : ℕ) → b (suc i) ≡ exponent b_side f i)
    → ((i : ℕ) → a (suc i) ≡ exponent a_side f i)
    → (ascending 1 f ++ (descending 1 f ++ w)) ~ plain (runs_up_to (levels f) b a) w
letters_plain b a f w p q =
    ≈_front (ascending 1 f) (descending_plain f 0 (levels f) a w (omega arith) (from a a_side q))
    ⟫ ascending_plain f 0 b (plain (falling a (levels f)) w) (from b b_side p)
    ⟫ ≈_path (sym (plain_append (rising b 0 (levels f)) (falling a (levels f)) w))
  where
    from : (c : ℕ → ℕ) (s : Side) → ((i : ℕ) → c (suc i) ≡ exponent s f i) → (i j : ℕ) → j ≡ suc (0 + i)
        → c j ≡ exponent s f i
    from c s r i j e =
        let same : j ≡ suc i = omega arith in
        ap c same ∙ r i

-- The letters of a form and the word of its runs.
letters_level : (c d : ℕ) (f : Form) (b a : ℕ → ℕ) → ((i : ℕ) → b i ≡ exponent b_side (level c d f) i)
    → ((i : ℕ) → a i ≡ exponent a_side (level c d f) i) → letters (level c d f) ~ run_spelling (level c d f)
letters_level c d f b a p q =
    ≈_path
    (append_assoc (copies c ('a ∷ [])) (ascending 1 f) (descending 1 f ++ copies d ('A ∷ []))
    ∙ ap₂ (λ (u v : Word). u ++ (ascending 1 f ++ (descending 1 f ++ v))) (copies-single c 'a) (copies-single d 'A))
    ⟫ ≈_front (replicate c 'a) (letters_plain b a f (replicate d 'A) (λ i. p (suc i)) (λ i. q (suc i)))
    ⟫ plain_spelt (runs_up_to (levels f) b a) c d
    ⟫ ≈_path (ap (λ (l : List Run). spelt c l d) (runs_up_to_lem (level c d f) (levels f) b a (omega arith) p q))

pub letters-runs : (f : Form) → letters f ~ run_spelling f
letters-runs empty = ≈_refl
letters-runs (level c d f) =
    letters_level c d f (exponent b_side (level c d f)) (exponent a_side (level c d f)) (λ i. refl) (λ i. refl)
