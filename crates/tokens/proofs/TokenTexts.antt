-- A token is the token of one power only, and it holds no space (02, [1]: "A token is `x`, a decimal index without
-- leading zeros, and optionally `^` and an exponent"). Assumes nothing.
use mathlib.Core.Path.{◌≡◌, refl, sym, subst}
use mathlib.Core.Bool.{Bool, true, false, cond}
use mathlib.Core.List.{List, [], ◌∷◌, ◌++◌}
use Prim.Native.Nat.{ℕ}
use native.Mathlib.Omega.{arith}
use lib.Dec.{eqb}
use borrow.Author.Tests.{eqb-true}
use Rattle.numerals.specs.Decimals.{decimal, Digits}
use Rattle.numerals.specs.inside.Reading.{NoDigit}
use Rattle.numerals.proofs.Numerals.{decimal_digits, decimal_injective}
use Rattle.numerals.proofs.Prefixes.{digits_prefix}
use Rattle.group.specs.Forms.{Side, b_side, a_side}
use Rattle.group.specs.Powers.{SignedPower, signed_power}
use Rattle.tokens.specs.Tokens.{power_sign, minus_sign, exponent_text, token_text}
use Rattle.tokens.specs.inside.Ends.{AtEnd}
use Rattle.tokens.proofs.Spaces.{NoSpace, no_space-append, no_space_digits, space_prefix}

-- An exponent's text holds no space.
exponent_no_space : (s : Side) (e : ℕ) → NoSpace (exponent_text s e)
exponent_no_space b_side e = go (eqb e 1)
  where
    go : (t : Bool) → NoSpace (cond t [] (power_sign ∷ decimal e))
    go true = tt
    go false = (λ h. omega arith, no_space_digits (decimal e) (decimal_digits e))
exponent_no_space a_side e =
    (λ h. omega arith, (λ h. omega arith, no_space_digits (decimal e) (decimal_digits e)))

-- A token holds no space.
pub token_no_space : (p : SignedPower) → NoSpace (token_text p)
token_no_space (signed_power s k e) = (
  λ h. omega arith,
  no_space-append (decimal k) (exponent_text s e) (no_space_digits (decimal k) (decimal_digits k))
      (exponent_no_space s e),
)

-- An exponent's text does not begin with a digit.
pub exponent_no_digit : (s : Side) (e : ℕ) → NoDigit (exponent_text s e)
exponent_no_digit b_side e = go (eqb e 1)
  where
    go : (t : Bool) → NoDigit (cond t [] (power_sign ∷ decimal e))
    go true = tt
    go false = λ h. omega (arith, h)
exponent_no_digit a_side e = λ h. omega (arith, h)

-- Digits do not begin with `-`.
no_minus : (d t : List ℕ) → Digits d → d ≡ minus_sign ∷ t → ⊥
no_minus d t h e = omega (arith, (subst Digits e h).0)

-- An exponent of the b side has its text alone, and none of the a side has it.
rising_injective : (e f : ℕ) → exponent_text b_side e ≡ exponent_text b_side f → e ≡ f
rising_injective e f = go (eqb e 1) (eqb f 1) refl refl
  where
    go : (t u : Bool) → eqb e 1 ≡ t → eqb f 1 ≡ u
        → cond t [] (power_sign ∷ decimal e) ≡ cond u [] (power_sign ∷ decimal f) → e ≡ f
    go true true g h k = omega (arith, eqb-true e 1 g, eqb-true f 1 h)
    go true false g h k = let z : ◌≡◌ {A = ℕ} 0 1 = cc in absurd (omega arith)
    go false true g h k = let z : ◌≡◌ {A = ℕ} 0 1 = cc in absurd (omega arith)
    go false false g h k = let same : decimal e ≡ decimal f = cc in decimal_injective e f same

sides_differ : (e f : ℕ) → exponent_text b_side e ≡ exponent_text a_side f → ⊥
sides_differ e f = go (eqb e 1)
  where
    go : (t : Bool) → cond t [] (power_sign ∷ decimal e) ≡ exponent_text a_side f → ⊥
    go true k = let z : ◌≡◌ {A = ℕ} 0 1 = cc in omega arith
    go false k =
        let same : decimal e ≡ minus_sign ∷ decimal f = cc in no_minus (decimal e) (decimal f) (decimal_digits e) same

-- An exponent's text tells its side and its size.
pub exponent_injective : (s u : Side) (e f : ℕ) → exponent_text s e ≡ exponent_text u f → (s ≡ u) × (e ≡ f)
exponent_injective b_side b_side e f h = (refl, rising_injective e f h)
exponent_injective b_side a_side e f h = absurd (sides_differ e f h)
exponent_injective a_side b_side e f h = absurd (sides_differ f e (sym h))
exponent_injective a_side a_side e f h =
    let same : decimal e ≡ decimal f = cc in (refl, decimal_injective e f same)

-- A token is the token of one power.
pub token_injective : (p q : SignedPower) → token_text p ≡ token_text q → p ≡ q
token_injective (signed_power s k e) (signed_power u j f) h =
    let tails : decimal k ++ exponent_text s e ≡ decimal j ++ exponent_text u f = cc in
    let parts = digits_prefix (decimal k) (decimal j) (exponent_text s e) (exponent_text u f) (decimal_digits k)
    (decimal_digits j) (exponent_no_digit s e) (exponent_no_digit u f) tails in
    let power = exponent_injective s u e f parts.1 in
    let sides : s ≡ u = power.0 in
    let indices : k ≡ j = decimal_injective k j parts.0 in
    let exponents : e ≡ f = power.1 in
    cc

-- The token in front of the first space, or of the end, and what stands behind it.
pub token_prefix : (p q : SignedPower) (r s : List ℕ) → AtEnd r → AtEnd s → token_text p ++ r ≡ token_text q ++ s
    → (p ≡ q) × (r ≡ s)
token_prefix p q r s hr hs h =
    let parts = space_prefix (token_text p) (token_text q) r s (token_no_space p) (token_no_space q) hr hs h in
    (token_injective p q parts.0, parts.1)
