-- A caret grown at a leaf (02, [6]): what is grown in the shape is the shape of the tree with a caret at the leaf.
--     grow-shape      in the bytes as in the tree                        grown-carets    one caret more
--     leaf_there      the leaves 0 to N of a tree with N carets          grown-shape     the shape where it is accepted
--     grown-beyond, grown_full    where it is refused: no leaf k, or no caret more
-- Assumes nothing.
use mathlib.Core.Path.{◌≡◌, refl, sym, ap, ◌∙◌}
use mathlib.Core.Bool.{Bool, cond}
use mathlib.Core.List.{List, [], ◌∷◌, ◌++◌, append_assoc, append-nil}
use Prim.Native.Nat.{ℕ, zero, suc, ◌+◌, ◌≤◌, ◌<◌}
use native.Mathlib.Decide.{dec_lt}
use native.Mathlib.Omega.{arith}
use borrow.Author.Tests.{lt-ltb, le-ltb}
use lib.ListN.{length}
use Rattle.lists.specs.Entries.{total}
use Rattle.group.specs.Points.{𝟎, 𝟏}
use Rattle.refusals.specs.Outcomes.{Outcome, accepted, refused}
use Rattle.trees.specs.Trees.{Tree, leaf, caret, carets, Address, IsLeaf}
use Rattle.trees.specs.Shapes.{shape}
use Rattle.trees.specs.Pairs.{max_carets}
use Rattle.trees.proofs.Leaves.{LeafAt, to_leaf, of_leaf, leaf_le, leaf_of}
use Rattle.trees.proofs.Shapes.{shape-length}
use Rattle.bitrows.specs.inside.Nodes.{Nodes}
use Rattle.bitrows.proofs.NodeLists.{nodes-total}
use Rattle.packed.specs.Packing.{tree_shape}
use Rattle.packed.specs.Growing.{grown, grow_at, grown_shape}
use Rattle.packed.proofs.Trees.{shape-nodes, shape-total, tree_shape_lem, tree_large}

-- The leaves of a tree have the numbers up to its carets.
pub leaf_there : (t : Tree) (k : ℕ) → k ≤ carets t → (u : Address) × IsLeaf t k u
leaf_there t k h =
    let x = leaf_of t k h in
    (x.0, of_leaf t k x.0 x.1)

pub leaf_within : (t : Tree) (k : ℕ) (u : Address) → IsLeaf t k u → k ≤ carets t
leaf_within t k u h = leaf_le t k u (to_leaf t k u h)

-- One caret more.
carets_more : (t : Tree) (k : ℕ) (u : Address) → LeafAt t k u → carets (grown t u) ≡ suc (carets t)
carets_more leaf k u h = refl
carets_more (caret l r) k [] h = absurd h
carets_more (caret l r) k (𝟎 ∷ u) h = omega (arith, carets_more l k u h)
carets_more (caret l r) k (𝟏 ∷ u) h = omega (arith, carets_more r h.0 u h.2)

pub grown-carets : (t : Tree) (k : ℕ) (u : Address) → IsLeaf t k u → carets (grown t u) ≡ suc (carets t)
grown-carets t k u h = carets_more t k u (to_leaf t k u h)

-- Nodes with at most k leaves stay, and leaf k is counted on behind them.
pub grow_past : (xs s : List ℕ) (k j : ℕ) → Nodes xs → k + total xs ≡ j + length xs
    → grow_at (xs ++ s) k ≡ xs ++ grow_at s j
grow_past [] s k j h e =
    let d : k ≡ j = omega arith in
    ap (grow_at s) d
grow_past (zero ∷ xs) s zero j h e = absurd (omega (arith, nodes-total xs h.1))
grow_past (zero ∷ xs) s (suc k) j h e = ap (λ (t : List ℕ). 0 ∷ t) (grow_past xs s k j h.1 (omega arith))
grow_past (suc zero ∷ xs) s k j h e = ap (λ (t : List ℕ). 1 ∷ t) (grow_past xs s k j h.1 (omega arith))
grow_past (suc (suc b) ∷ xs) s k j h e = absurd (omega (arith, h.0))

-- The shape of a tree grows as the tree does, whatever follows.
grow_front : (t : Tree) (k : ℕ) (u : Address) (rest : List ℕ) → LeafAt t k u
    → grow_at (shape t ++ rest) k ≡ shape (grown t u) ++ rest
grow_front leaf k [] rest h = ap (grow_at (0 ∷ rest)) h
grow_front leaf k (d ∷ u) rest h = absurd h
grow_front (caret l r) k [] rest h = absurd h
grow_front (caret l r) k (𝟎 ∷ u) rest h =
    ap (λ (s : List ℕ). 1 ∷ s)
    (ap (λ (s : List ℕ). grow_at s k) (append_assoc (shape l) (shape r) rest)
    ∙ grow_front l k u (shape r ++ rest) h
    ∙ sym (append_assoc (shape (grown l u)) (shape r) rest))
grow_front (caret l r) k (𝟏 ∷ u) rest h =
    ap (λ (s : List ℕ). 1 ∷ s)
    (ap (λ (s : List ℕ). grow_at s k) (append_assoc (shape l) (shape r) rest)
    ∙ grow_past (shape l) (shape r ++ rest) k h.0 (shape-nodes l)
    (omega (arith, h.1, shape-total l, shape-length l))
    ∙ ap (λ (s : List ℕ). shape l ++ s) (grow_front r h.0 u rest h.2)
    ∙ sym (append_assoc (shape l) (shape (grown r u)) rest))

pub grow-shape : (t : Tree) (k : ℕ) (u : Address) → IsLeaf t k u → grow_at (shape t) k ≡ shape (grown t u)
grow-shape t k u h =
    ap (λ (s : List ℕ). grow_at s k) (sym (append-nil (shape t)))
    ∙ grow_front t k u [] (to_leaf t k u h)
    ∙ append-nil (shape (grown t u))

-- The outcome, by whether there is no leaf k.
abbrev judged : List ℕ → ℕ → Bool → Outcome (List ℕ)
judged s k beyond = cond beyond (refused 15 0) (tree_shape (grow_at s k))

-- A number that is no leaf's.
pub grown-beyond : (t : Tree) (k : ℕ) → carets t < k → grown_shape (shape t) k ≡ refused 15 0
grown-beyond t k h = ap (judged (shape t) k) (lt-ltb (total (shape t)) k (omega (arith, shape-total t)))

-- A leaf: what is grown is judged as the shape of the grown tree.
pub grown_leaf : (t : Tree) (k : ℕ) (u : Address) → IsLeaf t k u
    → grown_shape (shape t) k ≡ tree_shape (shape (grown t u))
grown_leaf t k u h =
    ap (judged (shape t) k) (le-ltb (total (shape t)) k (omega (arith, shape-total t, leaf_within t k u h)))
    ∙ ap tree_shape (grow-shape t k u h)

-- The shape of the tree with a caret at leaf k.
pub grown-shape : (t : Tree) (k : ℕ) → k ≤ carets t → carets t < max_carets
    → (u : Address) × IsLeaf t k u × (grown_shape (shape t) k ≡ accepted (shape (grown t u)))
grown-shape t k h few =
    let x = leaf_there t k h in
    let u = x.0 in
    (u, x.1, grown_leaf t k u x.1 ∙ tree_shape_lem (grown t u) (omega (arith, grown-carets t k u x.1)))

-- A tree with as many carets as the bound allows does not grow.
pub grown_full : (t : Tree) (k : ℕ) → max_carets ≤ carets t → grown_shape (shape t) k ≡ refused 15 0
grown_full t k many = go (dec_lt (carets t) k)
  where
    go : Dec (carets t < k) → grown_shape (shape t) k ≡ refused 15 0
    go (yes h) = grown-beyond t k h
    go (no h) =
        let x = leaf_there t k (omega arith) in
        grown_leaf t k x.0 x.1 ∙ tree_large (grown t x.0) (omega (arith, grown-carets t k x.0 x.1))
