-- Powers and scratch that fit: what the engine asks where all tests pass. Assumes nothing.
use mathlib.Core.Path.{◌≡◌, refl, sym, subst}
use mathlib.Core.Bool.{Bool, true, false, cond, ◌&&◌}
use mathlib.Core.List.{List, [], ◌∷◌}
use Prim.Native.Nat.{ℕ, ◌≤◌}
use native.Mathlib.Omega.{arith}
use lib.Dec.{T, eqb, ltb}
use lib.ListN.{length}
use borrow.Author.Tests.{ltb-false, eqb-true, leb-true}
use Rattle.std.specs.Prelude.{nat_le}
use Rattle.lists.specs.Entries.{total}
use Rattle.group.specs.Limits.{limit}
use Rattle.group.specs.Powers.{exponent_sizes}
use Rattle.group.specs.inside.PowerLists.{powers_in}
use Rattle.forest.specs.inside.Filling.{cells}
use Rattle.forest.specs.inside.FillingPowers.{indices_fit_value, scratch_fits, powers_fit_value}
use Rattle.forest.specs.inside.Cursor.{IndicesWithin}
use Rattle.forest.specs.inside.Seeking.{front_room, row_room, PowersReady}

-- Where two tests pass together: what each said.
both : (t u : Bool) → cond t u false ≡ true → (t ≡ true) × (u ≡ true)
both true u h = (refl, h)
both false u h = (h, absurd (subst T (sym h) tt))

and_both : (t u : Bool) → t && u ≡ true → (t ≡ true) × (u ≡ true)
and_both true u h = (refl, h)
and_both false u h = (h, absurd (subst T (sym h) tt))

unless : (t u : Bool) → cond t false u ≡ true → (t ≡ false) × (u ≡ true)
unless true u h = (sym h, absurd (subst T (sym h) tt))
unless false u h = (refl, h)

-- No index of the powers is above the limit.
powers_within : (ks es ss : List ℕ) → indices_fit_value ks ≡ true → IndicesWithin limit (powers_in ks es ss)
powers_within [] es ss h = tt
powers_within (k ∷ ks) [] ss h = tt
powers_within (k ∷ ks) (e ∷ es) [] h = tt
powers_within (k ∷ ks) (e ∷ es) (s ∷ ss) h =
    let p = and_both (nat_le k limit) (indices_fit_value ks) h in
    (leb-true k limit p.0, powers_within ks es ss p.1)

-- Their sizes are among the exponents.
powers_sizes : (ks es ss : List ℕ) → exponent_sizes (powers_in ks es ss) ≤ total es
powers_sizes [] es ss = omega arith
powers_sizes (k ∷ ks) [] ss = omega arith
powers_sizes (k ∷ ks) (e ∷ es) [] = omega arith
powers_sizes (k ∷ ks) (e ∷ es) (s ∷ ss) = omega (arith, powers_sizes ks es ss)

-- Where all tests pass: what the engine asks.
pub powers_ready : {ks es ss lefts rights before stack : List ℕ} → scratch_fits lefts rights before stack ≡ true
    → powers_fit_value ks es ss ≡ true → PowersReady ks es ss lefts rights before stack
powers_ready {ks} {es} {ss} {lefts} {rights} {before} {stack} f g =
    let (l, f₁) = both (eqb (length lefts) cells) _ f in
    let (r, f₂) = both (eqb (length rights) cells) _ f₁ in
    let (b, s) = both (eqb (length before) front_room) _ f₂ in
    let (e, g₁) = both (eqb (length es) (length ks)) _ g in
    let (d, g₂) = both (eqb (length ss) (length ks)) _ g₁ in
    let (k, g₃) = both (indices_fit_value ks) _ g₂ in
    record {
      exponents-length = eqb-true (length es) (length ks) e;
      sides_length = eqb-true (length ss) (length ks) d;
      indices_within = powers_within ks es ss k;
      sizes =
          omega (arith, powers_sizes ks es ss, ltb-false limit (total es) (unless (ltb limit (total es)) true g₃).0);
      lefts_length = eqb-true (length lefts) cells l;
      rights_length = eqb-true (length rights) cells r;
      before_length = eqb-true (length before) front_room b;
      stack_length = eqb-true (length stack) row_room s;
    }
