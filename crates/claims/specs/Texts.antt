-- The sentences of 02, [1], on subscript notation, beside the demands: a claim each; proofs/Texts.antt has the proofs,
-- under the same names in snake case. What the claims speak of, and where it is defined:
--     token_text p, text_of ps     the token of a power; the tokens of powers, one space apart    tokens, Tokens, Texts
--     pieces_of t, AllWellSpelled  what the spaces of a text part; each of them is a token        tokens, Texts
--     AllInRange ps                indices and exponents are allowed                              tokens, Tokens
--     product_letters ps           the letters that powers are read through                       group, Powers
--     form_powers f                the powers of a form in its order                              group, Powers
--     letters f, exponent_sum f    the form in letters; the sum of its exponents                  group, Forms
-- Assumes nothing.
use Rattle.std.specs.Prelude.{◌≡◌, List, [], ◌++◌, ◌↔◌, ℕ}
use Rattle.group.specs.Forms.{Form, letters, exponent_sum}
use Rattle.group.specs.Powers.{SignedPower, product_letters, exponent_sizes, form_powers}
use Rattle.numerals.specs.Decimals.{decimal, Numeral, value_from}
use Rattle.tokens.specs.Tokens.{AllInRange}
use Rattle.tokens.specs.Texts.{text_of, pieces_of, AllWellSpelled}

-- "a decimal index without leading zeros": the decimal of n is a numeral, and the only one with the value n.
pub record DecimalsAreNumerals : Type 0 where
  pub numeral : (n : ℕ) → Numeral (decimal n)
  pub value : (n : ℕ) → value_from 0 (decimal n) ≡ n
  pub only : (d : List ℕ) → Numeral d → d ≡ decimal (value_from 0 d)

-- "tokens stand one space apart": every piece of a text is a token just when it is the text of powers in range.
abbrev pub TextsAreTokens : Type 0
TextsAreTokens =
    (t : List ℕ) → AllWellSpelled (pieces_of t) ↔ ((ps : List SignedPower) × AllInRange ps × (t ≡ text_of ps))

-- "Each token is read through its letters", "one token a power, in the form's order": the empty text is the empty word;
-- texts behind one another are read one behind another; and the powers of a form are read through the form's letters.
pub record TextsAreLetters : Type 0 where
  pub none : (text_of [] ≡ []) × (product_letters [] ≡ [])
  pub behind : (ps qs : List SignedPower) → product_letters (ps ++ qs) ≡ product_letters ps ++ product_letters qs
  pub of_form : (f : Form) → product_letters (form_powers f) ≡ letters f
  pub sizes : (f : Form) → exponent_sizes (form_powers f) ≡ exponent_sum f
