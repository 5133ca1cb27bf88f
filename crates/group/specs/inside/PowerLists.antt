-- Powers that are held in lists of numbers. Assumes nothing.
use Rattle.std.specs.Prelude.{List, [], ◌∷◌, ℕ, zero, suc}
use Rattle.group.specs.Forms.{Side, b_side, a_side}
use Rattle.group.specs.Powers.{SignedPower, signed_power}

-- The side that a number stands for: 0 the b side, any other the a side.
abbrev pub side_of : ℕ → Side
side_of zero = b_side
side_of (suc n) = a_side

-- The powers that three lists hold: index, exponent and side of each; no more than the shortest list has.
abbrev pub powers_in : (indices exponents sides : List ℕ) → List SignedPower
powers_in [] es ss = []
powers_in (k ∷ ks) [] ss = []
powers_in (k ∷ ks) (e ∷ es) [] = []
powers_in (k ∷ ks) (e ∷ es) (s ∷ ss) = signed_power (side_of s) k e ∷ powers_in ks es ss
