-- Signs of a text, the end of a token, and the number that ends it: which contract each way through `read_last` meets.
-- Assumes nothing.
use mathlib.Core.Path.{◌≡◌, refl, sym, ap, ◌∙◌, subst}
use mathlib.Core.Bool.{Bool, true, false}
use mathlib.Core.List.{List, [], ◌∷◌, ◌++◌}
use Prim.Native.Nat.{ℕ, ◌+◌, ◌≤◌, ◌<◌}
use native.Mathlib.Decide.{dec_lt}
use native.Mathlib.Omega.{arith}
use borrow.Author.Tests.{eqb-true, eqb-false}
use lib.ListN.{length, get_or, drop, drop_of_length-le}
use Rattle.numerals.specs.Decimals.{decimal, Digits, Leading}
use Rattle.numerals.specs.inside.Reading.{NoDigit}
use Rattle.numerals.proofs.Numerals.{decimal_numeral, decimal_digits, decimal_injective}
use Rattle.numerals.proofs.Prefixes.{digits_prefix}
use Rattle.tokens.specs.Tokens.{power_sign, minus_sign, space}
use Rattle.tokens.specs.inside.Ends.{AtEnd}
use Rattle.std.specs.Prelude.{None}
use Rattle.std.specs.Bool.{then_some}
use Rattle.tokens.specs.declared.numbers.Number.{Number}
use Rattle.tokens.specs.inside.Spelling.{Stands, is_end, NumberFound, NoNumber, LastFound, LastRead}
use Rattle.tokens.proofs.DigitRuns.{drop_next}

module _ (t : List ℕ) (at c : ℕ) where
  -- A sign is the first byte from its place on.
  pub sign_here : Stands t at c → drop at t ≡ c ∷ drop (at + 1) t
  sign_here h = drop_next t at h.within ∙ ap (λ (x : ℕ). x ∷ drop (at + 1) t) h.here

  -- It does not stand there.
  pub sign_other : (Stands t at c → ⊥) → (s : List ℕ) → drop at t ≡ c ∷ s → ⊥
  sign_other other s e = go (dec_lt at (length t))
    where
      go : Dec (at < length t) → ⊥
      go (yes lt) =
          let both : get_or t at 0 ∷ drop (at + 1) t ≡ c ∷ s = sym (drop_next t at lt) ∙ e in
          let first : get_or t at 0 ≡ c = cc in
          other (record { within = lt; here = first })
      go (no ge) =
          let out : [] ≡ c ∷ s = sym (drop_of_length-le t {i = at} (omega arith)) ∙ e in
          let z : ◌≡◌ {A = ℕ} 0 1 = cc in
          omega arith

-- What the test says.
pub end_true : (s : List ℕ) → is_end s ≡ true → AtEnd s
end_true [] e = tt
end_true (c ∷ s) e = eqb-true c space e

-- What it says where it fails.
pub end_false : (s : List ℕ) → is_end s ≡ false → AtEnd s → ⊥
end_false [] e h = let z : ◌≡◌ {A = ℕ} 0 1 = cc in omega arith
end_false (c ∷ s) e h = eqb-false c space e h

-- A token does not end in front of a digit.
pub end_digit : (s : List ℕ) → AtEnd s → NoDigit s
end_digit [] h = tt
end_digit (c ∷ s) h = λ d. omega (arith, d.0)

-- Nor in front of `^`.
pub end_sign : (s r : List ℕ) → AtEnd r → power_sign ∷ s ≡ r → ⊥
end_sign s r h e = go (subst AtEnd (sym e) h)
  where
    go : power_sign ≡ space → ⊥
    go h = omega arith

-- A number is one number only.
pub decimals_same : (m n : ℕ) (r s : List ℕ) → NoDigit r → NoDigit s → decimal m ++ r ≡ decimal n ++ s
    → (m ≡ n) × (r ≡ s)
decimals_same m n r s hr hs e =
    let parts = digits_prefix (decimal m) (decimal n) r s (decimal_digits m) (decimal_digits n) hr hs e in
    (decimal_injective m n parts.0, parts.1)

-- No number begins with a minus sign.
pub decimal_minus : (n : ℕ) (r s : List ℕ) → minus_sign ∷ s ≡ decimal n ++ r → ⊥
decimal_minus n r s = go (decimal n) (decimal_digits n) (decimal_numeral n).leading
  where
    go : (d : List ℕ) → Digits d → Leading d → minus_sign ∷ s ≡ d ++ r → ⊥
    go [] h l e = l
    go (c ∷ d) h l e = let same : minus_sign ≡ c = cc in omega (arith, h.0.0)

module _ {t : List ℕ} {at value end : ℕ} (n : NumberFound t at value end) where
  -- The number, where one stands there, is the one that was read.
  number_same : (m : ℕ) (r : List ℕ) → NoDigit r → drop at t ≡ decimal m ++ r → (value ≡ m) × (drop end t ≡ r)
  number_same m r stop e = decimals_same value m (drop end t) r n.stops stop (sym n.text ∙ e)

  -- The number ends the token.
  pub last_found : {least : ℕ} → least ≤ value → is_end (drop end t) ≡ true → LastFound t at least value end
  last_found ge ends = record {
    within = n.within;
    least_within = ge;
    small = n.small;
    text = n.text;
    ends = end_true (drop end t) ends;
  }

  -- It is below the least, or the token goes on behind it.
  pub last_small : {least : ℕ} → value < least → LastRead t at least None
  last_small lt m r ge le h e = omega (arith, (number_same m r (end_digit r h) e).0)

  pub last_cut : (least : ℕ) → is_end (drop end t) ≡ false → LastRead t at least None
  last_cut least on m r ge le h e =
      end_false (drop end t) on (subst AtEnd (sym (number_same m r (end_digit r h) e).1) h)

-- A number from the least on is read where the token ends behind it.
pub last_read : {t : List ℕ} {at least : ℕ} (n : Number) → NumberFound t at n.value n.end → least ≤ n.value
    → LastRead t at least (then_some (is_end (drop n.end t)) n)
last_read {t} {at} {least} n h ge = go (is_end (drop n.end t)) refl
  where
    go : (b : Bool) → is_end (drop n.end t) ≡ b → LastRead t at least (then_some b n)
    go true e = last_found h ge e
    go false e = last_cut h least e

-- No number.
pub last_none : (t : List ℕ) (at least : ℕ) → NoNumber (drop at t) → LastRead t at least None
last_none t at least none m r ge le h e = none m r le (end_digit r h) e
