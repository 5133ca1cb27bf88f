-- `decimal n` is the numeral of the value n, and the only one (02, [1]: "a decimal index without leading zeros").
-- Assumes nothing.
use mathlib.Core.Path.{◌≡◌, refl, sym, ap, ◌∙◌, subst}
use mathlib.Core.List.{List, [], ◌∷◌, ◌++◌, append_assoc, append-nil}
use Prim.Native.Nat.{ℕ, zero, suc, ◌+◌, ◌-◌, ◌*◌, ◌/◌, ◌%◌, ◌≤◌, ◌<◌}
use native.Mathlib.Decide.{dec_lt}
use native.Mathlib.Omega.{arith}
use borrow.Author.Tests.{lt-ltb}
use Rattle.io.specs.Digits.{hex_digit_ascii}
use Rattle.numerals.specs.Decimals.{decimal_within, decimal, Digit, Digits, value_from, Leading, Numeral}
use Rattle.numerals.proofs.Decimals.{within_one, within_more}
use Rattle.numerals.proofs.Values.{value_append}

-- The byte of a digit.
pub glyph_digit : (d : ℕ) → d < 10 → hex_digit_ascii d ≡ 48 + d
glyph_digit d h = simp (lt-ltb d 10 h)

-- One digit, by its byte.
one_digit : (most n : ℕ) → n < 10 → decimal_within most n ≡ (48 + n) ∷ []
one_digit most n h =
    let same : n % 10 ≡ n = omega arith in
    within_one most n h ∙ ap (λ (d : ℕ). hex_digit_ascii d ∷ []) same ∙ ap (λ (c : ℕ). c ∷ []) (glyph_digit n h)

-- More digits, the last by its byte.
more_digits : (most n : ℕ) → 10 ≤ n
    → decimal_within (suc most) n ≡ decimal_within most (n / 10) ++ ((48 + n % 10) ∷ [])
more_digits most n h =
    within_more most n h
    ∙ ap (λ (c : ℕ). decimal_within most (n / 10) ++ (c ∷ [])) (glyph_digit (n % 10) (omega arith))

-- One digit behind others.
pub digits_snoc : (d : List ℕ) (c : ℕ) → Digits d → Digit c → Digits (d ++ (c ∷ []))
digits_snoc [] c h g = (g, tt)
digits_snoc (x ∷ d) c h g = (h.0, digits_snoc d c h.1 g)

-- A digit behind a numeral whose value is not 0.
leading_snoc : (d : List ℕ) (c : ℕ) → Leading d → 1 ≤ value_from 0 d → Leading (d ++ (c ∷ []))
leading_snoc [] c l h = absurd l
leading_snoc (x ∷ []) c l h = omega arith
leading_snoc (x ∷ y ∷ d) c l h = l

-- What is said of the digits of n.
record Spells (d : List ℕ) (n : ℕ) : Type 0 where
  numeral : Numeral d
  value : value_from 0 d ≡ n

-- One digit.
spells_one : (n : ℕ) → n < 10 → Spells ((48 + n) ∷ []) n
spells_one n h = record {
  numeral = record { digits = ((omega arith, omega arith), tt); leading = tt };
  value = omega arith;
}

-- One digit more.
spells_more : (d : List ℕ) (n : ℕ) → 10 ≤ n → Spells d (n / 10) → Spells (d ++ ((48 + n % 10) ∷ [])) n
spells_more d n h s = record {
  numeral = record {
    digits = digits_snoc d (48 + n % 10) s.numeral.digits (omega arith, omega arith);
    leading = leading_snoc d (48 + n % 10) s.numeral.leading (omega (arith, s.value));
  };
  value = value_append d ((48 + n % 10) ∷ []) 0 ∙ last (value_from 0 d) s.value;
}
  where
    last : (v : ℕ) → v ≡ n / 10 → 10 * v + (48 + n % 10 - 48) ≡ n
    last v e = omega arith

-- By the number of digits that are left.
spells_within : (most n : ℕ) → n ≤ most → Spells (decimal_within most n) n
spells_within zero n h =
    subst (λ (d : List ℕ). Spells d n) (sym (one_digit zero n (omega arith)))
    (spells_one n (omega arith))
spells_within (suc most) n h = go (λ le. spells_within most (n / 10) (omega arith)) (dec_lt n 10)
  where
    go : (10 ≤ n → Spells (decimal_within most (n / 10)) (n / 10)) → Dec (n < 10) → Spells (decimal_within (suc most) n) n
    go later (yes lt) = subst (λ (d : List ℕ). Spells d n) (sym (one_digit (suc most) n lt)) (spells_one n lt)
    go later (no ge) =
        subst (λ (d : List ℕ). Spells d n) (sym (more_digits most n (omega arith)))
        (spells_more (decimal_within most (n / 10)) n (omega arith) (later (omega arith)))

-- A number's digits are a numeral: in particular no zero stands in front of others.
pub decimal_numeral : (n : ℕ) → Numeral (decimal n)
decimal_numeral n = (spells_within n n (omega arith)).numeral

pub decimal_digits : (n : ℕ) → Digits (decimal n)
decimal_digits n = (decimal_numeral n).digits

-- Their value is the number.
pub decimal_value : (n : ℕ) → value_from 0 (decimal n) ≡ n
decimal_value n = (spells_within n n (omega arith)).value

pub decimal_injective : (m n : ℕ) → decimal m ≡ decimal n → m ≡ n
decimal_injective m n e = sym (decimal_value m) ∙ ap (value_from 0) e ∙ decimal_value n

-- Any bound that is not below the number gives the same digits.
within_same : (most other n : ℕ) → n ≤ most → n ≤ other → decimal_within most n ≡ decimal_within other n
within_same zero other n h k = one_digit zero n (omega arith) ∙ sym (one_digit other n (omega arith))
within_same (suc most) zero n h k = one_digit (suc most) n (omega arith) ∙ sym (one_digit zero n (omega arith))
within_same (suc most) (suc other) n h k =
    go (λ le. within_same most other (n / 10) (omega arith) (omega arith)) (dec_lt n 10)
  where
    go : (10 ≤ n → decimal_within most (n / 10) ≡ decimal_within other (n / 10)) → Dec (n < 10)
        → decimal_within (suc most) n ≡ decimal_within (suc other) n
    go later (yes lt) = one_digit (suc most) n lt ∙ sym (one_digit (suc other) n lt)
    go later (no ge) =
        more_digits most n (omega arith)
        ∙ ap (λ (d : List ℕ). d ++ ((48 + n % 10) ∷ [])) (later (omega arith))
        ∙ sym (more_digits other n (omega arith))

-- The digits of a number below 10, and of one with a digit more than a number from 1.
pub decimal_one : (c : ℕ) → Digit c → decimal (c - 48) ≡ c ∷ []
decimal_one c h =
    let same : 48 + (c - 48) ≡ c = omega arith in
    one_digit (c - 48) (c - 48) (omega arith) ∙ ap (λ (b : ℕ). b ∷ []) same

pub decimal_more : (v c : ℕ) → 1 ≤ v → Digit c → decimal (10 * v + (c - 48)) ≡ decimal v ++ (c ∷ [])
decimal_more v c h g = go (10 * v + (c - 48)) refl
  where
    go : (n : ℕ) → n ≡ 10 * v + (c - 48) → decimal n ≡ decimal v ++ (c ∷ [])
    go zero e = absurd (omega arith)
    go (suc n) e =
        let last : 48 + suc n % 10 ≡ c = omega arith in
        let front : suc n / 10 ≡ v = omega arith in
        more_digits n (suc n) (omega arith)
        ∙ ap (λ (b : ℕ). decimal_within n (suc n / 10) ++ (b ∷ [])) last
        ∙ ap (λ (m : ℕ). decimal_within n m ++ (c ∷ [])) front
        ∙ ap (λ (d : List ℕ). d ++ (c ∷ [])) (within_same n v v (omega arith) (omega arith))

-- Digits behind those of a number from 1.
pub decimal-behind : (d : List ℕ) (v : ℕ) → 1 ≤ v → Digits d → decimal v ++ d ≡ decimal (value_from v d)
decimal-behind [] v h g = append-nil (decimal v)
decimal-behind (c ∷ d) v h g =
    sym (append_assoc (decimal v) (c ∷ []) d)
    ∙ ap (λ (s : List ℕ). s ++ d) (sym (decimal_more v c h g.0))
    ∙ decimal-behind d (10 * v + (c - 48)) (omega arith) g.1

-- The digit in front of all others.
decimal-first : (c : ℕ) → Digit c → decimal (10 * 0 + (c - 48)) ≡ c ∷ []
decimal-first c g = let same : 10 * 0 + (c - 48) ≡ c - 48 = omega arith in ap decimal same ∙ decimal_one c g

-- A numeral is the digits of its value.
pub numeral_decimal : (d : List ℕ) → Numeral d → d ≡ decimal (value_from 0 d)
numeral_decimal [] h = absurd h.leading
numeral_decimal (c ∷ []) h = sym (decimal-first c h.digits.0)
numeral_decimal (c ∷ e ∷ d) h =
    ap (λ (s : List ℕ). s ++ (e ∷ d)) (sym (decimal-first c h.digits.0))
    ∙ decimal-behind (e ∷ d) (10 * 0 + (c - 48)) (omega (arith, h.leading)) h.digits.1
