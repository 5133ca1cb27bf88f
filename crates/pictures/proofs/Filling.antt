-- A text with numbers, sign by sign. Assumes nothing.
use mathlib.Core.Path.{◌≡◌, ap}
use mathlib.Core.Bool.{Bool, true, false, cond}
use mathlib.Core.List.{List, [], ◌∷◌, ◌++◌}
use Prim.Native.Nat.{ℕ, ◌+◌, ◌≤◌, ◌<◌}
use native.Mathlib.Numerals.{add-one}
use native.Mathlib.Omega.{arith}
use borrow.Author.Tests.{eq-eqb, ne_eqb}
use lib.Dec.{eqb}
use lib.ListN.{length, get_or, drop, drop_of_length-le}
use lib.Seq.{drop-cons}
use Rattle.numerals.specs.Decimals.{decimal}
use Rattle.pictures.specs.Texts.{tilde, sign_of, behind_sign, filled_from}

-- A `~` and any other sign.
module _ (ns : List ℕ) (j x : ℕ) where
  pub sign_tilde : x ≡ tilde → decimal (get_or ns j 0) ≡ sign_of ns j x
  sign_tilde e = simp (eq-eqb x tilde e)

  pub sign_other : (x ≡ tilde → ⊥) → x ∷ [] ≡ sign_of ns j x
  sign_other e = simp (ne_eqb x tilde e)

pub behind-tilde : (j x : ℕ) → x ≡ tilde → j + 1 ≡ behind_sign j x
behind-tilde j x e = simp (eq-eqb x tilde e)

pub behind_other : (j x : ℕ) → (x ≡ tilde → ⊥) → j ≡ behind_sign j x
behind_other j x e = simp (ne_eqb x tilde e)

-- At most one number more.
more_le : (b : Bool) (j : ℕ) → cond b (j + 1) j ≤ j + 1
more_le true j = omega arith
more_le false j = omega arith

pub behind_le : (j x : ℕ) → behind_sign j x ≤ j + 1
behind_le j x = more_le (eqb x tilde) j

-- The first of the signs from i on.
pub filled_next : (ns text : List ℕ) (i j : ℕ) → i < length text
    → filled_from ns j (drop i text)
    ≡ sign_of ns j (get_or text i 0) ++ filled_from ns (behind_sign j (get_or text i 0)) (drop (i + 1) text)
unfolding filled_from
filled_next ns text i j h =
    let e : drop i text ≡ get_or text i 0 ∷ drop (i + 1) text = rw add-one (drop-cons text i 0 h) in
    ap (filled_from ns j) e

-- Behind the last sign.
pub filled_none : (ns text : List ℕ) (i j : ℕ) → length text ≤ i → filled_from ns j (drop i text) ≡ []
unfolding filled_from
filled_none ns text i j h = ap (filled_from ns j) (drop_of_length-le text h)
