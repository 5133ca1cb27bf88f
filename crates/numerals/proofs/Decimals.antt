-- The digits of a number: as many as its size asks for, and at most 20 for a number of 64 bits. Assumes nothing.
use mathlib.Core.Path.{◌≡◌, refl, sym, ap, ◌∙◌, subst}
use mathlib.Core.Bool.{Bool, true, false, cond}
use mathlib.Core.List.{List, [], ◌∷◌, ◌++◌}
use Prim.Native.Nat.{ℕ, zero, suc, ◌-◌, ◌/◌, ◌%◌, ◌^◌, ◌≤◌, ◌<◌}
use native.Mathlib.Nat.{pow-suc, one-le-pow}
use native.Mathlib.Omega.{arith}
use lib.ListN.{length, length-append}
use lib.Dec.{ltb}
use borrow.Author.Tests.{lt-ltb, le-ltb, ltb-false}
use Rattle.io.specs.Digits.{hex_digit_ascii, last_digits, IsDigitCount}
use Rattle.numerals.specs.Decimals.{decimal_within, decimal}

-- No power of ten is 0.
pow_pos : (k : ℕ) → 1 ≤ 10 ^ k
pow_pos k = one-le-pow k 10 (omega arith)

-- One digit.
pub within_one : (most n : ℕ) → n < 10 → decimal_within most n ≡ hex_digit_ascii (n % 10) ∷ []
unfolding decimal_within
within_one zero n h = refl
within_one (suc most) n h =
    let same : n ≡ n % 10 = omega arith in
    first (lt-ltb n 10 h) ∙ ap (λ (d : ℕ). hex_digit_ascii d ∷ []) same
  where
    first : ltb n 10 ≡ true → decimal_within (suc most) n ≡ hex_digit_ascii n ∷ []
    first e = ap (λ (t : Bool). cond t (hex_digit_ascii n ∷ []) (decimal_within most (n / 10) ++ (hex_digit_ascii (n % 10) ∷ []))) e

-- More than one digit.
pub within_more : (most n : ℕ) → 10 ≤ n
    → decimal_within (suc most) n ≡ decimal_within most (n / 10) ++ (hex_digit_ascii (n % 10) ∷ [])
unfolding decimal_within
within_more most n h = simp (le-ltb n 10 h)

-- A number of k + 2 digits is at least 10^(k + 1).
lower : (n k : ℕ) → IsDigitCount 10 1 n (suc (suc k)) → 10 ^ suc k ≤ n
lower n k f =
    let same : suc (suc k) - 1 ≡ suc k = omega arith in
    subst (λ (j : ℕ). 10 ^ j ≤ n) same (f.2 (omega arith))

-- A number without its last digit has one digit fewer.
fewer : (n k : ℕ) → IsDigitCount 10 1 n (suc (suc k)) → IsDigitCount 10 1 (n / 10) (suc k)
fewer n k f = (omega arith, omega (arith, f.1, pow-suc 10 (suc k)), λ h. least (lower n k f))
  where
    same : suc k - 1 ≡ k
    same = omega arith

    least : 10 ^ suc k ≤ n → 10 ^ (suc k - 1) ≤ n / 10
    least le = subst (λ (j : ℕ). 10 ^ j ≤ n / 10) (sym same) (omega (arith, le, pow-suc 10 k))

-- By the number of digits that are left.
within_digits : (most n k : ℕ) → n ≤ most → IsDigitCount 10 1 n k → decimal_within most n ≡ last_digits 10 k n
within_digits most n zero h f = absurd (omega (arith, f.0))
within_digits most n (suc zero) h f = within_one most n f.1
within_digits zero n (suc (suc k)) h f = absurd (omega (arith, lower n k f, pow-suc 10 k, pow_pos k))
within_digits (suc most) n (suc (suc k)) h f =
    within_more most n (omega (arith, lower n k f, pow-suc 10 k, pow_pos k))
    ∙ ap (λ (s : List ℕ). s ++ (hex_digit_ascii (n % 10) ∷ []))
    (within_digits most (n / 10) (suc k) (omega (arith, lower n k f, pow-suc 10 k, pow_pos k)) (fewer n k f))

-- Digits that are as many as the number's size asks for are those of the number.
pub digits_found : {s : List ℕ} (n k : ℕ) → IsDigitCount 10 1 n k → s ≡ last_digits 10 k n → s ≡ decimal n
digits_found n k f e = e ∙ sym (within_digits n n k (omega arith) f)

-- One digit more, where the shorter number's digits are few.
length_more : (n k : ℕ) (s : List ℕ) → 10 ≤ n → n < 10 ^ suc k → ((j : ℕ) → n / 10 < 10 ^ suc j → length s ≤ suc j)
    → length (s ++ (hex_digit_ascii (n % 10) ∷ [])) ≤ suc k
length_more n zero s g h few = absurd (omega (arith, h))
length_more n (suc k) s g h few =
    omega (arith, length-append s (hex_digit_ascii (n % 10) ∷ []), few k (omega (arith, h, pow-suc 10 (suc k))))

-- A number below 10^(k + 1) has at most k + 1 digits.
within_length : (most n k : ℕ) → n < 10 ^ suc k → length (decimal_within most n) ≤ suc k
unfolding decimal_within
within_length zero n k h = omega arith
within_length (suc most) n k h = go (λ j l. within_length most (n / 10) j l) (ltb n 10) refl
  where
    go : ((j : ℕ) → n / 10 < 10 ^ suc j → length (decimal_within most (n / 10)) ≤ suc j) → (t : Bool) → ltb n 10 ≡ t
        → length (cond t (hex_digit_ascii n ∷ []) (decimal_within most (n / 10) ++ (hex_digit_ascii (n % 10) ∷ []))) ≤ suc k
    go few true e = omega arith
    go few false e = length_more n k (decimal_within most (n / 10)) (ltb-false n 10 e) h few

pub decimal_short : (n k : ℕ) → n < 10 ^ suc k → length (decimal n) ≤ suc k
decimal_short n k h = within_length n n k h

-- A number of 64 bits has at most 20 digits.
pub decimal-length : (n : ℕ) → n < 2 ^ 64 → length (decimal n) ≤ 20
decimal-length n h = decimal_short n 19 (omega arith)
