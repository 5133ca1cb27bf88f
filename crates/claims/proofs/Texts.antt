-- The claims of specs/Texts.antt, proved. Assumes nothing.
use mathlib.Core.Path.{refl}
use Rattle.group.proofs.Powers.{product_append, form_powers_lem, form_sizes}
use Rattle.numerals.proofs.Numerals.{decimal_numeral, decimal_value, numeral_decimal}
use Rattle.tokens.proofs.Readings.{all_spelled}
use Rattle.claims.specs.Texts.{DecimalsAreNumerals, TextsAreTokens, TextsAreLetters}

pub decimals_are_numerals : DecimalsAreNumerals
decimals_are_numerals = record { numeral = decimal_numeral; value = decimal_value; only = numeral_decimal }

pub texts_are_tokens : TextsAreTokens
texts_are_tokens = all_spelled

pub texts_are_letters : TextsAreLetters
texts_are_letters =
    record { none = (refl, refl); behind = product_append; of_form = form_powers_lem; sizes = form_sizes }
