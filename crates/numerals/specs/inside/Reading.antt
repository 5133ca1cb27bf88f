-- Digits as a reader of bytes meets them: where they end. Assumes nothing.
use Rattle.std.specs.Prelude.{List, [], ◌∷◌, ℕ}
use Rattle.numerals.specs.Decimals.{Digit}

-- The list does not begin with a digit.
abbrev pub NoDigit : List ℕ → Type 0
NoDigit [] = Unit {0}
NoDigit (c ∷ s) = Digit c → ⊥
