-- The value of digits: in two parts, and no smaller with more digits (02, [1]: an index or an exponent above the limit
-- is refused, and its digits may be any number). Assumes nothing.
use mathlib.Core.Path.{◌≡◌, refl}
use mathlib.Core.List.{List, [], ◌∷◌, ◌++◌}
use Prim.Native.Nat.{ℕ, ◌-◌, ◌+◌, ◌*◌, ◌≤◌}
use native.Mathlib.Omega.{arith}
use Rattle.numerals.specs.Decimals.{value_from}

-- The value of digits in two parts.
pub value_append : (d e : List ℕ) (v : ℕ) → value_from v (d ++ e) ≡ value_from (value_from v d) e
value_append [] e v = refl
value_append (c ∷ d) e v = value_append d e (10 * v + (c - 48))

-- No digit makes a value smaller.
pub value_grows : (d : List ℕ) (v : ℕ) → v ≤ value_from v d
value_grows [] v = omega arith
value_grows (c ∷ d) v = omega (arith, value_grows d (10 * v + (c - 48)))
