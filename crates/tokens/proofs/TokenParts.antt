-- The parts of a token: which contract each way through the functions that read an exponent, an index and a token
-- meets. Assumes nothing.
use mathlib.Core.Path.{◌≡◌, sym, ap, ◌∙◌}
use mathlib.Core.List.{List, [], ◌∷◌, ◌++◌, append_assoc}
use Prim.Native.Nat.{ℕ, ◌+◌, ◌≤◌}
use native.Mathlib.Decide.{ℕ_discrete}
use native.Mathlib.Omega.{arith}
use borrow.Author.Tests.{eq-eqb, ne_eqb}
use lib.ListN.{drop}
use Rattle.numerals.specs.Decimals.{decimal}
use Rattle.numerals.specs.inside.Reading.{NoDigit}
use Rattle.group.specs.Forms.{Side, b_side, a_side}
use Rattle.group.specs.Powers.{signed_power}
use Rattle.std.specs.Prelude.{None}
use Rattle.tokens.specs.Tokens.{x_sign, power_sign, minus_sign, exponent_text, token_text}
use Rattle.tokens.specs.inside.Ends.{AtEnd}
use Rattle.tokens.specs.inside.Spelling.{Stands, IndexFound, IndexRead, LastFound, LastRead}
use Rattle.tokens.specs.inside.Spelling.{ExponentFound, ExponentRead, PowerRead, NoToken}
use Rattle.tokens.proofs.TokenTexts.{exponent_no_digit}
use Rattle.tokens.proofs.TokenEnds.{sign_here, sign_other, end_digit, end_sign}
use Rattle.tokens.proofs.TokenEnds.{decimals_same, decimal_minus}

-- An exponent without a minus sign.
b_text : (e : ℕ) → 2 ≤ e → exponent_text b_side e ≡ power_sign ∷ decimal e
b_text e ge = simp (ne_eqb e 1 (λ (h : e ≡ 1). omega arith))

-- It is from 2 on, since an exponent 1 has no sign.
b_parts : (e : ℕ) (r s : List ℕ) → 1 ≤ e → AtEnd r → power_sign ∷ s ≡ exponent_text b_side e ++ r
    → (2 ≤ e) × (s ≡ decimal e ++ r)
b_parts e r s ge h q = go (ℕ_discrete e 1)
  where
    go : Dec (e ≡ 1) → (2 ≤ e) × (s ≡ decimal e ++ r)
    go (yes one) = absurd (end_sign s r h (simp (eq-eqb e 1 one) at q))
    go (no other) =
        let two : 2 ≤ e = omega arith in
        let text : power_sign ∷ s ≡ power_sign ∷ (decimal e ++ r) = q ∙ ap (λ (l : List ℕ). l ++ r) (b_text e two) in
        (two, cc)

module _ (t : List ℕ) (at : ℕ) where
  -- Behind `^-`.
  minus_here : Stands t at minus_sign → drop at t ≡ minus_sign ∷ drop (at + 1) t
  minus_here h = sign_here t at minus_sign h

  pub minus_found : {value end : ℕ} → Stands t at minus_sign → LastFound t (at + 1) 1 value end
      → ExponentFound (power_sign ∷ drop at t) t a_side value end
  minus_found h n = record {
    within = n.within;
    some = n.least_within;
    small = n.small;
    text = ap (λ (l : List ℕ). power_sign ∷ l) (minus_here h ∙ ap (λ (l : List ℕ). minus_sign ∷ l) n.text);
    ends = n.ends;
  }

  pub minus_none : Stands t at minus_sign → LastRead t (at + 1) 1 None
      → ExponentRead (power_sign ∷ drop at t) t None
  minus_none h none b_side e r ge le ends q =
      decimal_minus e r (drop (at + 1) t) (sym (minus_here h) ∙ (b_parts e r (drop at t) ge ends q).1)
  minus_none h none a_side e r ge le ends q =
      let behind : drop (at + 1) t ≡ decimal e ++ r = cc (minus_here h) in
      none e r ge le ends behind

  -- Behind `^`.
  pub plain_found : {value end : ℕ} → LastFound t at 2 value end
      → ExponentFound (power_sign ∷ drop at t) t b_side value end
  plain_found {value} {end} n = record {
    within = n.within;
    some = omega (arith, n.least_within);
    small = n.small;
    text =
        ap (λ (l : List ℕ). power_sign ∷ l) n.text
        ∙ ap (λ (l : List ℕ). l ++ drop end t) (sym (b_text value n.least_within));
    ends = n.ends;
  }

  pub plain_none : (Stands t at minus_sign → ⊥) → LastRead t at 2 None
      → ExponentRead (power_sign ∷ drop at t) t None
  plain_none other none b_side e r ge le ends q =
      let parts = b_parts e r (drop at t) ge ends q in
      none e r parts.0 le ends parts.1
  plain_none other none a_side e r ge le ends q =
      let behind : drop at t ≡ minus_sign ∷ (decimal e ++ r) = cc in
      sign_other t at minus_sign other (decimal e ++ r) behind

-- Bytes in front that do not begin with a digit.
no_digit_append : (s r : List ℕ) → NoDigit s → NoDigit r → NoDigit (s ++ r)
no_digit_append [] r h g = g
no_digit_append (c ∷ s) r h g = h

-- No digit stands behind an index.
text_digit : (σ : Side) (e : ℕ) (r : List ℕ) → AtEnd r → NoDigit (exponent_text σ e ++ r)
text_digit σ e r h = no_digit_append (exponent_text σ e) r (exponent_no_digit σ e) (end_digit r h)

-- A token in its two parts.
token_parts : (n e : ℕ) (σ : Side) (r : List ℕ) {s : List ℕ} → s ≡ token_text (signed_power σ n e) ++ r
    → s ≡ x_sign ∷ (decimal n ++ (exponent_text σ e ++ r))
token_parts n e σ r q = q ∙ ap (λ (l : List ℕ). x_sign ∷ l) (append_assoc (decimal n) (exponent_text σ e) r)

-- No index: no token.
pub token_no_index : (t : List ℕ) (at : ℕ) → IndexRead t at None → NoToken (drop at t)
token_no_index t at none (signed_power σ n e) r h ends q =
    none n (exponent_text σ e ++ r) h.0 (text_digit σ e r ends) (token_parts n e σ r q)

module _ {t : List ℕ} {at k end : ℕ} (i : IndexFound t at k end) where
  -- No exponent: no token.
  pub token_no_exponent : ExponentRead (drop end t) t None → NoToken (drop at t)
  token_no_exponent none (signed_power σ n e) r h ends q =
      let text : drop at t ≡ x_sign ∷ (decimal n ++ (exponent_text σ e ++ r)) = token_parts n e σ r q in
      let index : drop at t ≡ x_sign ∷ (decimal k ++ drop end t) = i.text in
      let both : decimal k ++ drop end t ≡ decimal n ++ (exponent_text σ e ++ r) = cc in
      let parts = decimals_same k n (drop end t) (exponent_text σ e ++ r) i.stops (text_digit σ e r ends) both in
      none σ e r h.1 h.2 ends parts.1

  -- The token of a power.
  pub token_found : {side : Side} {size end' : ℕ} → ExponentFound (drop end t) t side size end'
      → PowerRead t at (signed_power side k size) end'
  token_found {side} {size} {end'} x = record {
    within = x.within;
    in_range = (i.small, x.some, x.small);
    text =
        i.text
        ∙ ap (λ (l : List ℕ). x_sign ∷ l)
        (ap (λ (l : List ℕ). decimal k ++ l) x.text
        ∙ sym (append_assoc (decimal k) (exponent_text side size) (drop end' t)));
    ends = x.ends;
  }
