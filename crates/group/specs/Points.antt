-- Dyadic points of [0, 1], by their binary digits after the point, and when two are the same (01, 'Letters and maps').
--     𝟎, 𝟏               the digits                      first_digit, later_digits   read past the end as zeros
--     below1 p, end1     a point below 1; the end 1      SamePoint                 one point, though digits may differ
-- Assumes nothing.
use Rattle.std.specs.Prelude.{◌≡◌, List, [], ◌∷◌, ℕ, zero, suc}

-- A binary digit.
pub data Digit : Type 0 where
  𝟎 𝟏 : Digit

-- A dyadic point from 0 to 1: a point below 1, by its digits (0 has no digits, or zeros only), or the end 1.
pub data Point : Type 0 where
  below1 : List Digit → Point
  end1 : Point

-- The first digit; zeros stand behind the last.
abbrev pub first_digit : List Digit → Digit
first_digit [] = 𝟎
first_digit (d ∷ p) = d

-- The digits behind the first.
abbrev pub later_digits : List Digit → List Digit
later_digits [] = []
later_digits (d ∷ p) = p

-- The digit at a place, counted from 0.
abbrev pub digit_at : List Digit → ℕ → Digit
digit_at p zero = first_digit p
digit_at p (suc n) = digit_at (later_digits p) n

-- Two points are the same: both are the end 1, or their digits agree at every place.
abbrev pub SamePoint : Point → Point → Type 0
SamePoint (below1 p) (below1 q) = (n : ℕ) → digit_at p n ≡ digit_at q n
SamePoint (below1 p) end1 = ⊥
SamePoint end1 (below1 q) = ⊥
SamePoint end1 end1 = Unit {0}
