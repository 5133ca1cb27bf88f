-- The digits of a shape, one by one. Assumes nothing.
use mathlib.Core.Path.{◌≡◌, refl, sym, ap, ◌∙◌}
use mathlib.Core.Bool.{cond}
use mathlib.Core.List.{List, [], ◌∷◌, ◌++◌}
use Prim.Native.Nat.{ℕ, ◌+◌, ◌<◌}
use native.Mathlib.Numerals.{add-one}
use lib.Dec.{eqb}
use lib.ListN.{length, get_or, take}
use lib.Seq.{take-suc}
use Rattle.commands.specs.Records.{digits_of}

-- The digits of two shapes, one behind the other.
digits_append : (s t : List ℕ) → digits_of (s ++ t) ≡ digits_of s ++ digits_of t
digits_append [] t = refl
digits_append (x ∷ s) t = ap (λ (l : List ℕ). cond (eqb x 0) 48 49 ∷ l) (digits_append s t)

-- One node more.
pub digits_more : (s : List ℕ) (i : ℕ) → i < length s
    → digits_of (take i s) ++ (cond (eqb (get_or s i 0) 0) 48 49 ∷ []) ≡ digits_of (take (i + 1) s)
digits_more s i h =
    let more : take (i + 1) s ≡ take i s ++ (get_or s i 0 ∷ []) = rw add-one (take-suc s i 0 h) in
    sym (ap digits_of more ∙ digits_append (take i s) (get_or s i 0 ∷ []))
