-- Bytes without a space (02, [1]: "tokens stand one space apart"): what stands in front of the first space of a text is
-- one list only. Assumes nothing.
use mathlib.Core.Path.{◌≡◌, refl, sym, ap₂, subst}
use mathlib.Core.List.{List, [], ◌∷◌, ◌++◌}
use Prim.Native.Nat.{ℕ}
use native.Mathlib.Omega.{arith}
use Rattle.numerals.specs.Decimals.{Digits}
use Rattle.tokens.specs.Tokens.{space}
use Rattle.tokens.specs.inside.Ends.{AtEnd}

-- No byte is a space.
abbrev pub NoSpace : List ℕ → Type 0
NoSpace [] = Unit {0}
NoSpace (c ∷ s) = (c ≡ space → ⊥) × NoSpace s

pub no_space-append : (s t : List ℕ) → NoSpace s → NoSpace t → NoSpace (s ++ t)
no_space-append [] t h g = g
no_space-append (c ∷ s) t h g = (h.0, no_space-append s t h.1 g)

-- Digits are no spaces.
pub no_space_digits : (d : List ℕ) → Digits d → NoSpace d
no_space_digits [] h = tt
no_space_digits (c ∷ d) h = (λ e. omega (arith, h.0), no_space_digits d h.1)

-- What ends is not a byte that is no space.
ends_not : (c : ℕ) (x r : List ℕ) → (c ≡ space → ⊥) → AtEnd r → r ≡ c ∷ x → ⊥
ends_not c x r n h e = n (subst AtEnd e h)

-- What stands in front of the first space, or of the end, and what stands behind it.
pub space_prefix : (x y r s : List ℕ) → NoSpace x → NoSpace y → AtEnd r → AtEnd s → x ++ r ≡ y ++ s
    → (x ≡ y) × (r ≡ s)
space_prefix [] [] r s hx hy hr hs h = (refl, h)
space_prefix [] (c ∷ y) r s hx hy hr hs h = absurd (ends_not c (y ++ s) r hy.0 hr h)
space_prefix (c ∷ x) [] r s hx hy hr hs h = absurd (ends_not c (x ++ r) s hx.0 hs (sym h))
space_prefix (c ∷ x) (b ∷ y) r s hx hy hr hs h =
    let first : c ≡ b = cc in
    let rest : x ++ r ≡ y ++ s = cc in
    let later = space_prefix x y r s hx.1 hy.1 hr hs rest in
    (ap₂ (λ (a : ℕ) (l : List ℕ). a ∷ l) first later.0, later.1)
