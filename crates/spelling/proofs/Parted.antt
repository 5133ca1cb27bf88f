-- Runs that do not cancel: the runs of a reduced form (01, 'The reduced form'; 'What the desk can be asked', record to
-- word). In each side the indices rise or fall; where the sides meet, the last index of the b side and the first of the
-- a side differ, since otherwise the form would not be reduced.
--     OfB x        x is b or B
--     Next k x l   a run of index k of letters x may stand before the runs l: no run of x⁻¹ of index k follows at once
--     Parted l     no run is empty, and each may stand before those behind it
-- Assumes nothing.
use mathlib.Core.Path.{◌≡◌, refl, sym, ◌∙◌, ap, subst}
use mathlib.Core.List.{List, [], ◌∷◌, ◌++◌}
use mathlib.Core.Logic.{◌⊎◌, inl, inr, ⊎_elim}
use Prim.Native.Nat.{ℕ, zero, suc, ◌+◌, ◌<◌}
use native.Mathlib.Nat.{eq-or-lt_of_le}
use native.Mathlib.Omega.{arith}
use Rattle.group.specs.Letters.{Letter, 'b, 'B, inverse_letter}
use Rattle.group.specs.Forms.{b_side, a_side, Form, exponent, levels}
use Rattle.group.specs.Reducing.{Reduced}
use Rattle.group.specs.Bytes.{byte_of}
use Rattle.group.proofs.Sizes.{exponent-behind}
use Rattle.spelling.specs.Runs.{Run, run, put_run, rising, falling}
use Rattle.spelling.specs.Spelling.{runs}
use Rattle.spelling.proofs.Runs.{put_append}

-- The letter b or its inverse.
pub data OfB : Letter → Type 0 where
  is_b : OfB 'b
  is_B : OfB 'B

-- The first of the runs is not of the same index and of the inverse letter.
abbrev pub Next : ℕ → Letter → List Run → Type 0
Next k x [] = Unit {0}
Next k x (run j y e ∷ l) = j ≡ k → y ≡ inverse_letter x → ⊥

-- No run cancels with the next.
pub data Parted : List Run → Type 0 where
  none : Parted []
  more : {k e : ℕ} {x : Letter} {l : List Run} → OfB x → Next k x l → Parted l → Parted (run k x (suc e) ∷ l)

-- A run put in front, if its exponent is above 0.
put_next : (k : ℕ) (x : Letter) (j : ℕ) (y : Letter) (e : ℕ) (l : List Run)
    → (0 < e → j ≡ k → y ≡ inverse_letter x → ⊥) → (e ≡ 0 → Next k x l) → Next k x (put_run j y e l)
put_next k x j y zero l p q = q refl
put_next k x j y (suc e) l p q = p (omega arith)

put_parted : (k : ℕ) (x : Letter) (e : ℕ) (l : List Run) → OfB x → (0 < e → Next k x l) → Parted l
    → Parted (put_run k x e l)
put_parted k x zero l s n h = h
put_parted k x (suc e) l s n h = more s (n (omega arith)) h

-- Runs of B.
falling_next_B : (n : ℕ) (a : ℕ → ℕ) (k : ℕ) → Next k 'B (falling a n)
falling_next_B zero a k = tt
falling_next_B (suc n) a k =
    put_next k 'B n 'B (a (suc n)) (falling a n)
    (λ p e c. omega (arith, ap byte_of c)) (λ e. falling_next_B n a k)

falling_parted : (n : ℕ) (a : ℕ → ℕ) → Parted (falling a n)
falling_parted zero a = none
falling_parted (suc n) a =
    put_parted n 'B (a (suc n)) (falling a n) is_B (λ p. falling_next_B n a n) (falling_parted n a)

-- A run of b may stand before the runs of B if its index is not the highest of theirs.
falling_next_b : (n : ℕ) (a : ℕ → ℕ) (k : ℕ) → ((i : ℕ) → n < i → a i ≡ 0)
    → (0 < a (suc k) → 0 < a (suc (suc k))) → Next k 'b (falling a n)
falling_next_b zero a k z c = tt
falling_next_b (suc n) a k z c =
    put_next k 'b n 'B (a (suc n)) (falling a n) here
    (λ e. falling_next_b n a k (λ i h. ⊎_elim (λ s. sym (ap a s) ∙ e) (z i) (eq-or-lt_of_le h)) c)
  where
    here : 0 < a (suc n) → n ≡ k → 'B ≡ 'B → ⊥
    here p e s =
        let above : 0 < a (suc (suc k)) = c (subst (λ (i : ℕ). 0 < a (suc i)) e p) in
        omega (arith, z (suc (suc k)) (omega arith))

-- It may stand before further runs of b in any case.
rising_next : (m j k : ℕ) (b : ℕ → ℕ) (r : List Run) → ((i : ℕ) → j + m < i → b i ≡ 0)
    → (b (suc j) ≡ 0 → Next k 'b r) → Next k 'b (rising b j m ++ r)
rising_next zero j k b r z h = h (z (suc j) (omega arith))
rising_next (suc m) j k b r z h =
    subst (Next k 'b) (sym (put_append j 'b (b (suc j)) (rising b (suc j) m) r))
    (put_next k 'b j 'b (b (suc j)) (rising b (suc j) m ++ r)
    (λ p e c. omega (arith, ap byte_of c))
    (λ e. rising_next m (suc j) k b r (λ i l. z i (omega arith)) (λ d. h e)))

-- Both sides, where above each index that both have the next index occurs.
both_parted : (m k n : ℕ) (b a : ℕ → ℕ) → ((i : ℕ) → k + m < i → b i ≡ 0) → ((i : ℕ) → n < i → a i ≡ 0)
    → ((i : ℕ) → 0 < a i → 0 < b i → (0 < a (suc i)) ⊎ (0 < b (suc i))) → Parted (rising b k m ++ falling a n)
both_parted zero k n b a y z c = falling_parted n a
both_parted (suc m) k n b a y z c =
    subst Parted (sym (put_append k 'b (b (suc k)) (rising b (suc k) m) (falling a n)))
    (put_parted k 'b (b (suc k)) (rising b (suc k) m ++ falling a n) is_b next
    (both_parted m (suc k) n b a (λ i l. y i (omega arith)) z c))
  where
    higher : b (suc (suc k)) ≡ 0 → (0 < a (suc (suc k))) ⊎ (0 < b (suc (suc k))) → 0 < a (suc (suc k))
    higher e (inl h) = h
    higher e (inr h) = absurd (omega arith)

    next : 0 < b (suc k) → Next k 'b (rising b (suc k) m ++ falling a n)
    next p =
        rising_next m (suc k) k b (falling a n) (λ i l. y i (omega arith))
        (λ e. falling_next_b n a k z (λ q. higher e (c (suc k) q p)))

-- The runs of a reduced form.
pub runs_parted : (f : Form) → Reduced f → Parted (runs f)
runs_parted f r =
    both_parted (levels f) 0 (levels f) (exponent b_side f) (exponent a_side f)
    (λ i l. exponent-behind b_side f i (omega arith))
    (λ i l. exponent-behind a_side f i (omega arith))
    r
