-- The word of runs that do not cancel has no neighbouring inverse letters (01, 'What the desk can be asked', record to
-- word). Assumes nothing.
use mathlib.Core.Path.{◌≡◌, refl, ap, subst}
use mathlib.Core.List.{List, [], ◌++◌, append-nil}
use Prim.Native.Nat.{ℕ, zero, suc}
use native.Mathlib.Omega.{arith}
use lib.ListN.{replicate}
use Rattle.group.specs.Letters.{Letter, 'a, 'A, 'b, 'B, Word, inverse_letter}
use Rattle.group.specs.Bytes.{byte_of}
use Rattle.group.proofs.FreeWords.{Apart, NoPairs}
use Rattle.spelling.specs.Runs.{Run}
use Rattle.spelling.specs.inside.RunLetters.{turn, spelt}
use Rattle.spelling.proofs.Turns.{turn_cases}
use Rattle.spelling.proofs.Parted.{OfB, is_b, is_B, Next, Parted, none, more}

-- No letter is its own inverse; b and B are inverse neither to a nor to A.
not_own_inverse : (x : Letter) → x ≡ inverse_letter x → ⊥
not_own_inverse 'a e = omega (arith, ap byte_of e)
not_own_inverse 'A e = omega (arith, ap byte_of e)
not_own_inverse 'b e = omega (arith, ap byte_of e)
not_own_inverse 'B e = omega (arith, ap byte_of e)

b_after_a : {x : Letter} → OfB x → x ≡ 'A → ⊥
b_after_a is_b e = omega (arith, ap byte_of e)
b_after_a is_B e = omega (arith, ap byte_of e)

b_after_A : {x : Letter} → OfB x → x ≡ 'a → ⊥
b_after_A is_b e = omega (arith, ap byte_of e)
b_after_A is_B e = omega (arith, ap byte_of e)

a_after_b : {x : Letter} → OfB x → 'a ≡ inverse_letter x → ⊥
a_after_b is_b e = omega (arith, ap byte_of e)
a_after_b is_B e = omega (arith, ap byte_of e)

A-after-b : {x : Letter} → OfB x → 'A ≡ inverse_letter x → ⊥
A-after-b is_b e = omega (arith, ap byte_of e)
A-after-b is_B e = omega (arith, ap byte_of e)

-- A power in front of a word.
power_apart : (n : ℕ) (x y : Letter) (w : Word) → (y ≡ inverse_letter x → ⊥) → (n ≡ 0 → Apart x w)
    → Apart x (replicate n y ++ w)
power_apart zero x y w n h = h refl
power_apart (suc n) x y w d h = d

power_no_pairs : (n : ℕ) (x : Letter) (w : Word) → Apart x w → NoPairs w → NoPairs (replicate n x ++ w)
power_no_pairs zero x w p h = h
power_no_pairs (suc n) x w p h =
    (power_apart n x x w (not_own_inverse x) (λ e. p), power_no_pairs n x w p h)

-- A turn in front of a word.
turn_no_pairs : (m n : ℕ) (w : Word) → Apart 'a w → Apart 'A w → NoPairs w → NoPairs (turn m n ++ w)
turn_no_pairs m n w p q h =
    turn_cases (λ u. NoPairs (u ++ w)) m n
    (λ d e. power_no_pairs d 'a w p h)
    (λ d e. power_no_pairs d 'A w q h)

turn_apart : {x : Letter} → OfB x → (m n : ℕ) (w : Word) → (n ≡ m → Apart x w) → Apart x (turn m n ++ w)
turn_apart {x} s m n w h =
    turn_cases (λ u. Apart x (u ++ w)) m n
    (λ d e. power_apart d x 'a w (a_after_b s) (λ z. h (omega arith)))
    (λ d e. power_apart d x 'A w (A-after-b s) (λ z. h (omega arith)))

-- What stands behind a run does not begin with the inverse of its letter.
spelt_apart : {x : Letter} → OfB x → (k : ℕ) {l : List Run} → Next k x l → Parted l → (n : ℕ) → Apart x (spelt k l n)
spelt_apart {x} s k c none n =
    subst (Apart x) (append-nil (turn k n)) (turn_apart s k n [] (λ e. tt))
spelt_apart s k c (more {k = j} {e} {x = y} {l} t d h) n =
    turn_apart s k j (replicate (suc e) y ++ spelt j l n) c

pub spelt_no_pairs : {l : List Run} → Parted l → (m n : ℕ) → NoPairs (spelt m l n)
spelt_no_pairs none m n = subst NoPairs (append-nil (turn m n)) (turn_no_pairs m n [] tt tt tt)
spelt_no_pairs (more {k} {e} {x} {l} s c h) m n =
    turn_no_pairs m k (replicate (suc e) x ++ spelt k l n) (b_after_a s) (b_after_A s)
    (power_no_pairs (suc e) x (spelt k l n) (spelt_apart s k c h n) (spelt_no_pairs h k n))
