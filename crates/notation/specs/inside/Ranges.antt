-- Powers that three lists hold, in range: a fact that holds in one way only. Assumes nothing.
use Rattle.std.specs.Prelude.{List, [], ◌∷◌, ℕ, ◌≤◌}
use Rattle.std.specs.Coded.{×_prop, Unit-prop, le_prop}
use Rattle.std.proofs.Common.{ap, ap₂, ◌∙◌}
use Rattle.group.specs.Limits.{limit}
use Rattle.group.specs.Powers.{SignedPower, signed_power}
use Rattle.group.specs.inside.PowerLists.{powers_in}
use Rattle.tokens.specs.Tokens.{InRange, AllInRange}

-- Each power is in range in one way only.
InRange-prop : (p : SignedPower) → IsProp (InRange p)
InRange-prop (signed_power s k e) x y =
    ap₂ (λ (a : k ≤ limit) (b : 1 ≤ e). (a, b, x.2)) (le_prop x.0 y.0) (le_prop x.1 y.1)
    ∙ ap (λ (c : e ≤ limit). (y.0, y.1, c)) (le_prop x.2 y.2)

-- So are all.
AllInRange-prop : (ps : List SignedPower) → IsProp (AllInRange ps)
AllInRange-prop [] = Unit-prop
AllInRange-prop (p ∷ ps) = ×_prop (InRange-prop p) (AllInRange-prop ps)

-- The index, the exponent and the side of each.
abbrev pub Ranged : (ks es ss : List ℕ) → Type 0
Ranged ks es ss = AllInRange (powers_in ks es ss)

-- So are those that three lists hold.
pub Ranged-prop : (ks es ss : List ℕ) → IsProp (Ranged ks es ss)
Ranged-prop ks es ss = AllInRange-prop (powers_in ks es ss)
