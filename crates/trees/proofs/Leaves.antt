-- The leaves of a tree by their numbers, which are 0 to N where it has N carets (01, 'The tree pair and the length').
--     LeafAt t k u   leaf k is at the address u, by the sides of the carets: the same as IsLeaf t k u
-- Assumes nothing.
use mathlib.Core.Path.{◌≡◌, refl, ap, subst}
use mathlib.Core.List.{List, [], ◌∷◌, ◌++◌}
use mathlib.Core.Logic.{◌⊎◌, inl, inr}
use Prim.Native.Nat.{ℕ, zero, suc, ◌+◌, ◌≤◌}
use native.Mathlib.Omega.{arith}
use lib.ListN.{length, length-append}
use Rattle.lists.specs.Entries.{At}
use Rattle.lists.proofs.Entries.{at_first, at_second, at_split, at_bound, at_exists}
use Rattle.group.specs.Points.{Digit, 𝟎, 𝟏}
use Rattle.trees.specs.Trees.{Tree, leaf, caret, carets, Address, below, leaves, IsLeaf}

-- Addresses with one edge in front: as many as without it, each in its place.
pub below_length : (d : Digit) (us : List Address) → length (below d us) ≡ length us
below_length d [] = refl
below_length d (u ∷ us) = ap suc (below_length d us)

pub to_below : (d : Digit) (us : List Address) (k : ℕ) (u : Address) → At us k u → At (below d us) k (d ∷ u)
to_below d [] k u h = absurd h
to_below d (v ∷ us) zero u h = ap (λ (w : Address). d ∷ w) h
to_below d (v ∷ us) (suc k) u h = to_below d us k u h

pub of_below : (d : Digit) (us : List Address) (k : ℕ) (u : Address) → At (below d us) k u
    → (v : Address) × (d ∷ v ≡ u) × At us k v
of_below d [] k u h = absurd h
of_below d (v ∷ us) zero u h = (v, h, refl)
of_below d (v ∷ us) (suc k) u h = of_below d us k u h

-- The addresses below a caret, on the left and then on the right.
pub both-length : (us vs : List Address) → length (below 𝟎 us ++ below 𝟏 vs) ≡ length us + length vs
both-length us vs =
    omega (arith, length-append (below 𝟎 us) (below 𝟏 vs), below_length 𝟎 us, below_length 𝟏 vs)

-- Leaf k is at the address u, by the sides of the carets.
abbrev pub LeafAt : Tree → ℕ → Address → Type 0
LeafAt leaf k [] = k ≡ 0
LeafAt leaf k (d ∷ u) = ⊥
LeafAt (caret l r) k [] = ⊥
LeafAt (caret l r) k (𝟎 ∷ u) = LeafAt l k u
LeafAt (caret l r) k (𝟏 ∷ u) = (j : ℕ) × (k ≡ suc (carets l + j)) × LeafAt r j u

-- A tree with N carets has N + 1 leaves.
pub leaves-length : (t : Tree) → length (leaves t) ≡ suc (carets t)
leaves-length leaf = refl
leaves-length (caret l r) = omega (arith, both-length (leaves l) (leaves r), leaves-length l, leaves-length r)

-- Entry k of the list of leaves is LeafAt, and the other way round.
pub to_leaf : (t : Tree) (k : ℕ) (u : Address) → IsLeaf t k u → LeafAt t k u
to_leaf leaf zero u h = subst (λ (w : Address). LeafAt leaf 0 w) h refl
to_leaf leaf (suc k) u h = absurd h
to_leaf (caret l r) k u h = go (at_split (below 𝟎 (leaves l)) (below 𝟏 (leaves r)) k u h) (to_leaf l) (to_leaf r)
  where
    go : At (below 𝟎 (leaves l)) k u ⊎ ((j : ℕ) × (k ≡ length (below 𝟎 (leaves l)) + j) × At (below 𝟏 (leaves r)) j u)
        → ((k : ℕ) (u : Address) → IsLeaf l k u → LeafAt l k u)
        → ((k : ℕ) (u : Address) → IsLeaf r k u → LeafAt r k u) → LeafAt (caret l r) k u
    go (inl p) left right =
        let q = of_below 𝟎 (leaves l) k u p in
        subst (λ (w : Address). LeafAt (caret l r) k w) q.1 (left k q.0 q.2)
    go (inr p) left right =
        let q = of_below 𝟏 (leaves r) p.0 u p.2 in
        subst (λ (w : Address). LeafAt (caret l r) k w) q.1
        (p.0, omega (arith, p.1, below_length 𝟎 (leaves l), leaves-length l), right p.0 q.0 q.2)

pub of_leaf : (t : Tree) (k : ℕ) (u : Address) → LeafAt t k u → IsLeaf t k u
of_leaf leaf k [] h = rw h refl
of_leaf leaf k (d ∷ u) h = absurd h
of_leaf (caret l r) k [] h = absurd h
of_leaf (caret l r) k (𝟎 ∷ u) h =
    at_first (below 𝟎 (leaves l)) (below 𝟏 (leaves r)) k (𝟎 ∷ u) (to_below 𝟎 (leaves l) k u (of_leaf l k u h))
of_leaf (caret l r) k (𝟏 ∷ u) h =
    at_second (below 𝟎 (leaves l)) (below 𝟏 (leaves r)) k h.0 (𝟏 ∷ u)
    (omega (arith, h.1, below_length 𝟎 (leaves l), leaves-length l))
    (to_below 𝟏 (leaves r) h.0 u (of_leaf r h.0 u h.2))

-- The leaves have the numbers 0 to N, and each of these has a leaf.
pub leaf_le : (t : Tree) (k : ℕ) (u : Address) → LeafAt t k u → k ≤ carets t
leaf_le t k u h = omega (arith, at_bound (leaves t) k u (of_leaf t k u h), leaves-length t)

pub leaf_of : (t : Tree) (k : ℕ) → k ≤ carets t → (u : Address) × LeafAt t k u
leaf_of t k h =
    let x = at_exists (leaves t) k (omega (arith, leaves-length t)) in
    (x.0, to_leaf t k x.0 x.1)
