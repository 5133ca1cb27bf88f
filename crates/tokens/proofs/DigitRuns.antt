-- Digits read one by one, and the number that they are the numeral of. Assumes nothing.
use mathlib.Core.Path.{◌≡◌, refl, sym, ap, ◌∙◌, subst}
use mathlib.Core.List.{List, [], ◌∷◌, ◌++◌, append_assoc}
use Prim.Native.Nat.{ℕ, ◌+◌, ◌-◌, ◌*◌, ◌≤◌, ◌<◌}
use native.Mathlib.Numerals.{add-one}
use native.Mathlib.Omega.{arith}
use lib.ListN.{length, get_or, drop, length-append, length-drop}
use lib.Seq.{drop-cons, get_or-drop}
use Rattle.numerals.specs.Decimals.{decimal, Digit, Digits, value_from, Leading, Numeral}
use Rattle.numerals.specs.inside.Reading.{NoDigit}
use Rattle.numerals.proofs.Numerals.{digits_snoc, decimal_numeral, decimal_digits, decimal_value, numeral_decimal}
use Rattle.numerals.proofs.Prefixes.{digits_prefix}
use Rattle.numerals.proofs.Values.{value_append, value_grows}
use Rattle.group.specs.Limits.{limit}
use Rattle.tokens.specs.inside.Spelling.{DigitsRun, LargeDigits, NumberFound, NoNumber}

-- The byte at a place, and the bytes behind it.
pub drop_next : (t : List ℕ) (i : ℕ) → i < length t → drop i t ≡ get_or t i 0 ∷ drop (i + 1) t
drop_next t i lt = rw add-one (drop-cons t i 0 lt)

module _ {t : List ℕ} {at value i : ℕ} (r : DigitsRun t at value i) (lt : i < length t) where
  -- The digits and the byte behind them.
  run_text : drop at t ≡ (r.run ++ (get_or t i 0 ∷ [])) ++ drop (i + 1) t
  run_text =
      r.text ∙ ap (λ (s : List ℕ). r.run ++ s) (drop_next t i lt)
      ∙ sym (append_assoc r.run (get_or t i 0 ∷ []) (drop (i + 1) t))

  -- Their value.
  run_valued : 10 * value + (get_or t i 0 - 48) ≡ value_from 0 (r.run ++ (get_or t i 0 ∷ []))
  run_valued =
      ap (λ (v : ℕ). 10 * v + (get_or t i 0 - 48)) r.valued ∙ sym (value_append r.run (get_or t i 0 ∷ []) 0)

  -- One digit more.
  pub run_more : {value' : ℕ} → Digit (get_or t i 0) → value' ≡ 10 * value + (get_or t i 0 - 48) → value' ≤ limit
      → DigitsRun t at value' (i + 1)
  run_more d e le = record {
    run = r.run ++ (get_or t i 0 ∷ []);
    within = omega arith;
    text = run_text;
    digits = digits_snoc r.run (get_or t i 0) r.digits d;
    valued = e ∙ run_valued;
    small = le;
  }

  -- One digit more is too many.
  pub run_large : Digit (get_or t i 0) → limit < 10 * value + (get_or t i 0 - 48) → LargeDigits (drop at t)
  run_large d gt = record {
    run = r.run ++ (get_or t i 0 ∷ []);
    behind = drop (i + 1) t;
    text = run_text;
    digits = digits_snoc r.run (get_or t i 0) r.digits d;
    large = omega (arith, run_valued);
  }

-- Digits in front of others are a part of them.
digits_part : (d e r s : List ℕ) → Digits d → NoDigit s → d ++ r ≡ e ++ s → (f : List ℕ) × (e ≡ d ++ f)
digits_part [] e r s h stop q = (e, refl)
digits_part (c ∷ d) [] r s h stop q = absurd (subst NoDigit (sym q) stop h.0)
digits_part (c ∷ d) (x ∷ e) r s h stop q =
    let rest : d ++ r ≡ e ++ s = cc in
    let part = digits_part d e r s h.1 stop rest in
    let first : x ≡ c = cc in
    let same : e ≡ d ++ part.0 = part.1 in
    (part.0, cc)

-- Digits of a value above the limit: no number.
pub number_large : {s : List ℕ} → LargeDigits s → NoNumber s
number_large h n r le stop e =
    let part = digits_part h.run (decimal n) h.behind r h.digits stop (sym h.text ∙ e) in
    omega (
      arith,
      h.large,
      decimal_value n,
      ap (value_from 0) part.1,
      value_append h.run part.0 0,
      value_grows part.0 (value_from 0 h.run),
    )

-- Digits, at least one, that begin with no zero in front of others.
leads : (d s : List ℕ) → (length d ≡ 0 → ⊥) → (get_or (d ++ s) 0 0 ≡ 48 → 1 < length d → ⊥) → Digits d → Leading d
leads [] s some first h = some refl
leads (c ∷ []) s some first h = tt
leads (c ∷ e ∷ d) s some first h =
    let other : c ≡ 48 → ⊥ = λ q. first q (omega arith) in
    omega (arith, h.0.0)

-- A numeral does not begin so.
leads_not : (d s : List ℕ) → get_or (d ++ s) 0 0 ≡ 48 → 1 < length d → Leading d → ⊥
leads_not [] s e lt h = h
leads_not (c ∷ []) s e lt h = omega arith
leads_not (c ∷ x ∷ d) s e lt h = omega arith

module _ {t : List ℕ} {at value end : ℕ} (within : at ≤ length t) (r : DigitsRun t at value end)
    (stops : NoDigit (drop end t)) where
  -- How many digits were read.
  run_length : at + length r.run ≡ end
  run_length =
      omega (
        arith,
        r.within,
        ap length r.text,
        length-append r.run (drop end t),
        length-drop at t,
        length-drop end t,
      )

  -- The first byte.
  run_first : get_or (r.run ++ drop end t) 0 0 ≡ get_or t at 0
  run_first =
      let here : at + 0 ≡ at = omega arith in
      ap (λ (s : List ℕ). get_or s 0 0) (sym r.text) ∙ get_or-drop at t 0 0 ∙ ap (λ (i : ℕ). get_or t i 0) here

  -- A decimal that stands there is the digits that were read.
  run_same : (n : ℕ) (s : List ℕ) → NoDigit s → drop at t ≡ decimal n ++ s → r.run ≡ decimal n
  run_same n s stop e =
      (digits_prefix r.run (decimal n) (drop end t) s r.digits (decimal_digits n) stops stop (sym r.text ∙ e)).0

  -- Then they are a numeral.
  run_leads : (n : ℕ) (s : List ℕ) → NoDigit s → drop at t ≡ decimal n ++ s → Leading r.run
  run_leads n s stop e = subst Leading (sym (run_same n s stop e)) (decimal_numeral n).leading

  -- No digit: no number.
  pub number_none : end ≡ at → NoNumber (drop at t)
  number_none e n s le stop h = none r.run (omega (arith, run_length)) (run_leads n s stop h)
    where
      none : (d : List ℕ) → length d ≡ 0 → Leading d → ⊥
      none [] z h = h
      none (c ∷ d) z h = omega arith

  -- A zero in front of other digits: no number.
  pub number_zero : get_or t at 0 ≡ 48 → at + 1 < end → NoNumber (drop at t)
  number_zero e lt n s le stop h =
      leads_not r.run (drop end t) (run_first ∙ e) (omega (arith, run_length)) (run_leads n s stop h)

  -- No zero in front of others: a numeral.
  run_numeral : (end ≡ at → ⊥) → (get_or t at 0 ≡ 48 → at + 1 < end → ⊥) → Numeral r.run
  run_numeral some first = record {
    digits = r.digits;
    leading = leads r.run (drop end t) (λ z. some (omega (arith, run_length)))
        (λ e lt. first (sym run_first ∙ e) (omega (arith, run_length))) r.digits;
  }

  -- The number that they are the numeral of.
  pub number_found : (end ≡ at → ⊥) → (get_or t at 0 ≡ 48 → at + 1 < end → ⊥) → NumberFound t at value end
  number_found some first = record {
    within = r.within;
    small = r.small;
    text = r.text
        ∙ ap (λ (d : List ℕ). d ++ drop end t)
        (numeral_decimal r.run (run_numeral some first) ∙ ap decimal (sym r.valued));
    stops = stops;
  }
