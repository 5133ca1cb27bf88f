-- The run of digits in front of a list, as long as it can be, is one run only (02, [1]: a token's index ends where its
-- digits end). Assumes nothing.
use mathlib.Core.Path.{◌≡◌, refl, sym, ap₂, subst}
use mathlib.Core.List.{List, [], ◌∷◌, ◌++◌}
use Prim.Native.Nat.{ℕ}
use Rattle.numerals.specs.Decimals.{Digit, Digits}
use Rattle.numerals.specs.inside.Reading.{NoDigit}

-- A list that begins with a digit is not one that does not.
none_begins : (c : ℕ) (d r : List ℕ) → Digit c → NoDigit r → r ≡ c ∷ d → ⊥
none_begins c d r h n e = subst NoDigit e n h

pub digits_prefix : (d e r s : List ℕ) → Digits d → Digits e → NoDigit r → NoDigit s → d ++ r ≡ e ++ s
    → (d ≡ e) × (r ≡ s)
digits_prefix [] [] r s hd he nr ns h = (refl, h)
digits_prefix [] (x ∷ e) r s hd he nr ns h = absurd (none_begins x (e ++ s) r he.0 nr h)
digits_prefix (c ∷ d) [] r s hd he nr ns h = absurd (none_begins c (d ++ r) s hd.0 ns (sym h))
digits_prefix (c ∷ d) (x ∷ e) r s hd he nr ns h =
    let first : c ≡ x = cc in
    let rest : d ++ r ≡ e ++ s = cc in
    let later = digits_prefix d e r s hd.1 he.1 nr ns rest in
    (ap₂ (λ (b : ℕ) (l : List ℕ). b ∷ l) first later.0, later.1)
