-- The powers from i on of those that three lists hold. Assumes nothing.
use mathlib.Core.Path.{◌≡◌, refl, sym, ◌∙◌, ap, subst}
use mathlib.Core.List.{List, [], ◌∷◌}
use Prim.Native.Nat.{ℕ, zero, suc, ◌≤◌, ◌<◌}
use native.Mathlib.Omega.{arith}
use lib.ListN.{get_or, length, drop}
use lib.Seq.{drop-cons}
use Rattle.group.specs.Powers.{SignedPower, signed_power, exponent_sizes}
use Rattle.group.specs.inside.PowerLists.{side_of, powers_in}
use Rattle.forest.specs.inside.Cursor.{Cursor, cursor_of, IndicesWithin}

-- The powers from i on.
abbrev pub from : (ks es ss : List ℕ) → ℕ → List SignedPower
from ks es ss i = powers_in (drop i ks) (drop i es) (drop i ss)

pub from_more : (ks es ss : List ℕ) (j : ℕ) → j < length ks → length es ≡ length ks → length ss ≡ length ks
    → from ks es ss j ≡ signed_power (side_of (get_or ss j 0)) (get_or ks j 0) (get_or es j 0) ∷ from ks es ss (suc j)
from_more ks es ss j l he hs =
    ap (λ (xs : List ℕ). powers_in xs (drop j es) (drop j ss)) (drop-cons ks j 0 l)
    ∙ ap (λ (xs : List ℕ). powers_in (get_or ks j 0 ∷ drop (suc j) ks) xs (drop j ss)) (drop-cons es j 0 (omega arith))
    ∙ ap (λ (xs : List ℕ). powers_in (get_or ks j 0 ∷ drop (suc j) ks) (get_or es j 0 ∷ drop (suc j) es) xs)
    (drop-cons ss j 0 (omega arith))

-- What holds of all powers holds of those from i on.
none_es : (xs ss : List ℕ) → powers_in xs [] ss ≡ []
none_es [] ss = refl
none_es (k ∷ xs) ss = refl

none_ss : (xs ys : List ℕ) → powers_in xs ys [] ≡ []
none_ss [] ys = refl
none_ss (k ∷ xs) [] = refl
none_ss (k ∷ xs) (e ∷ ys) = refl

-- Indices within m, and sizes that sum to n at most.
pub record Few (m n : ℕ) (ps : List SignedPower) : Type 0 where
  pub indices : IndicesWithin m ps
  pub sizes : exponent_sizes ps ≤ n

few_none : (m n : ℕ) (ps : List SignedPower) → ps ≡ [] → Few m n ps
few_none m n ps e = subst (Few m n) (sym e) (record { indices = tt; sizes = omega arith })

pub few_from : (m n : ℕ) (ks es ss : List ℕ) (i : ℕ) → Few m n (powers_in ks es ss) → Few m n (from ks es ss i)
few_from m n ks es ss zero h = h
few_from m n [] es ss (suc i) h = h
few_from m n (k ∷ ks) [] ss (suc i) h =
    few_none m n (from (k ∷ ks) [] ss (suc i)) (none_es (drop i ks) (drop (suc i) ss))
few_from m n (k ∷ ks) (e ∷ es) [] (suc i) h =
    few_none m n (from (k ∷ ks) (e ∷ es) [] (suc i)) (none_ss (drop i ks) (drop i es))
few_from m n (k ∷ ks) (e ∷ es) (s ∷ ss) (suc i) h =
    few_from m n ks es ss i (record { indices = h.indices.1; sizes = omega (arith, h.sizes) })

-- The cursor behind the powers from i on, and the sum of their sizes.
abbrev pub cursor_from : (ks es ss : List ℕ) → ℕ → Cursor
cursor_from ks es ss i = cursor_of (from ks es ss i)

abbrev pub sizes_from : (ks es ss : List ℕ) → ℕ → ℕ
sizes_from ks es ss i = exponent_sizes (from ks es ss i)
