-- A caret with two leaves, by the exponents of the tree: off the right side, its left leaf has an exponent above 0 and
-- its right leaf the exponent 0; on the right side, it is the last caret, and one less would do (000, definitions 2.4
-- and 2.7, for theorem 2.6).
--     Exposure t i   what the exponents say of the caret with the leaves i and i + 1: one or the other
--     exposure_of    they say so where such a caret stands; the way back is in Exposing
-- Assumes nothing.
use mathlib.Core.Path.{◌≡◌, refl, sym, ◌∙◌, subst}
use mathlib.Core.List.{[], ◌∷◌, ◌++◌}
use mathlib.Core.Logic.{◌⊎◌, inl, inr}
use Prim.Native.Nat.{ℕ, suc, ◌<◌, ◌≤◌}
use native.Mathlib.Omega.{arith}
use lib.ListN.{get_or}
use Rattle.lists.specs.inside.Entries.{SameEntries}
use Rattle.lists.proofs.Totals.{same_append, same_zeros}
use Rattle.group.specs.Points.{𝟎, 𝟏}
use Rattle.trees.specs.Trees.{Tree, leaf, caret, carets, Address, RightSide}
use Rattle.trees.specs.Exponents.{left_edges}
use Rattle.trees.specs.Building.{needed}
use Rattle.trees.specs.Pairs.{Exposed}
use Rattle.trees.specs.Readings.{left_edge, later, exponents_of}
use Rattle.trees.proofs.Leaves.{LeafAt, to_leaf}
use Rattle.trees.proofs.Exponents.{exponent_from, address_exponent, exponent_from_left, exponent_from_longest}
use Rattle.trees.proofs.Exponents.{exponent_at_leaf}
use Rattle.trees.proofs.Built.{tree_least}

-- The left leaf of a caret at v has an exponent above 0, or the caret is on the right side.
left_exponent : (v : Address) → (0 < address_exponent (v ++ (𝟎 ∷ []))) ⊎ RightSide v
left_exponent [] = inr tt
left_exponent (𝟎 ∷ v) = inl (exponent_from_longest v 1 0)
left_exponent (𝟏 ∷ v) = left_exponent v

-- The first leaf of its right subtree, m left edges below, has the exponent m where the caret is off the right side.
from_next : (v : Address) (d m : ℕ) → exponent_from d (v ++ (𝟏 ∷ left_edges m)) ≡ m
from_next [] d m = omega (arith, exponent_from_left m 0)
from_next (𝟎 ∷ v) d m = from_next v (suc d) m
from_next (𝟏 ∷ v) d m = from_next v 0 m

pub next_exponent : (v : Address) (m : ℕ) → (RightSide v → ⊥) → address_exponent (v ++ (𝟏 ∷ left_edges m)) ≡ m
next_exponent [] m h = absurd (h tt)
next_exponent (𝟎 ∷ v) m h = from_next v 0 m
next_exponent (𝟏 ∷ v) m h = next_exponent v m h

-- The right leaf of a caret has the exponent 0.
right_exponent : (v : Address) → address_exponent (v ++ (𝟏 ∷ [])) ≡ 0
right_exponent [] = refl
right_exponent (𝟎 ∷ v) = from_next v 0 0
right_exponent (𝟏 ∷ v) = right_exponent v

-- The tree without the last caret of its right side, whose leaves are i and i + 1.
record Pruned (t : Tree) (i : ℕ) : Type 0 where
  tree : Tree
  fewer : carets tree ≡ i
  whole : carets t ≡ suc i
  entries : SameEntries (exponents_of tree) (exponents_of t)

prune : (t : Tree) (i : ℕ) (v : Address) → RightSide v → LeafAt t i (v ++ (𝟎 ∷ []))
    → LeafAt t (suc i) (v ++ (𝟏 ∷ [])) → Pruned t i
prune leaf i [] s p q = absurd p
prune leaf i (d ∷ v) s p q = absurd p
prune (caret leaf leaf) i [] s p q =
    let z : i ≡ 0 = p in
    record { tree = leaf; fewer = sym z; whole = omega arith; entries = same_zeros }
prune (caret leaf (caret l r)) i [] s p q = absurd q.2
prune (caret (caret l m) r) i [] s p q = absurd p
prune (caret l r) i (𝟎 ∷ v) s p q = absurd s
prune (caret l r) i (𝟏 ∷ v) s p q =
    let e : q.0 ≡ suc p.0 = omega (arith, p.1, q.1) in
    let x = prune r p.0 v s p.2 (subst (λ (n : ℕ). LeafAt r n (v ++ (𝟏 ∷ []))) e q.2) in
    record {
      tree = caret l x.tree;
      fewer = omega (arith, x.fewer, p.1);
      whole = omega (arith, x.whole, p.1);
      entries = same_append (left_edge l ∷ later l) (exponents_of x.tree) (exponents_of r) x.entries;
    }

-- A caret whose leaves are i and i + 1, by the exponents: off the right side, or the last caret of the right side.
pub data Exposure (t : Tree) (i : ℕ) : Type 0 where
  inside : 0 < get_or (exponents_of t) i 0 → get_or (exponents_of t) (suc i) 0 ≡ 0 → Exposure t i
  last : carets t ≡ suc i → needed 0 (exponents_of t) ≤ i → Exposure t i

-- A caret with two leaves is one of the two.
pub exposure_of : (t : Tree) (i : ℕ) → Exposed t i → Exposure t i
exposure_of t i c = go (left_exponent c.top)
  where
    l : Address
    l = c.top ++ (𝟎 ∷ [])

    r : Address
    r = c.top ++ (𝟏 ∷ [])

    go : (0 < address_exponent l) ⊎ RightSide c.top → Exposure t i
    go (inl p) =
        inside
        (omega (arith, exponent_at_leaf t i l c.left))
        (exponent_at_leaf t (suc i) r c.right ∙ right_exponent c.top)
    go (inr s) =
        let x = prune t i c.top s (to_leaf t i l c.left) (to_leaf t (suc i) r c.right) in
        last x.whole (omega (arith, x.fewer, tree_least x.tree (exponents_of t) x.entries))
