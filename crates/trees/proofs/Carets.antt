-- Caret k stands between the leaves k and k + 1, and has two subtrees (01, 'The tree pair and the length'; 000,
-- definition 2.1 and section 2.5).
--     CaretAt t k v   caret k is at the address v, by the sides of the carets: the same as IsCaret t k v
--     caret_between   the leaves beside a caret
-- Assumes nothing.
use mathlib.Core.Path.{◌≡◌, refl, sym, subst}
use mathlib.Core.List.{[], ◌∷◌, ◌++◌}
use mathlib.Core.Logic.{◌⊎◌, inl, inr}
use Prim.Native.Nat.{ℕ, zero, suc, ◌+◌, ◌<◌}
use native.Mathlib.Omega.{arith}
use lib.ListN.{length, length-append}
use Rattle.lists.specs.Entries.{At}
use Rattle.lists.proofs.Entries.{at_first, at_second, at_split, at_bound}
use Rattle.group.specs.Points.{𝟎, 𝟏}
use Rattle.trees.specs.Trees.{Tree, leaf, caret, carets, Address, below, IsLeaf, caret_places, IsCaret, Subtree}
use Rattle.trees.specs.Exponents.{left_edges, right_edges}
use Rattle.trees.proofs.Leaves.{below_length, to_below, of_below, LeafAt, of_leaf}

-- There are as many places as carets.
pub carets_numbered : (t : Tree) → length (caret_places t) ≡ carets t
carets_numbered leaf = refl
carets_numbered (caret l r) =
    omega (
      arith,
      length-append (below 𝟎 (caret_places l)) ([] ∷ below 𝟏 (caret_places r)),
      below_length 𝟎 (caret_places l),
      below_length 𝟏 (caret_places r),
      carets_numbered l,
      carets_numbered r,
    )

-- Caret k is at the address v, by the sides of the carets.
abbrev pub CaretAt : Tree → ℕ → Address → Type 0
CaretAt leaf k v = ⊥
CaretAt (caret l r) k [] = k ≡ carets l
CaretAt (caret l r) k (𝟎 ∷ v) = CaretAt l k v
CaretAt (caret l r) k (𝟏 ∷ v) = (j : ℕ) × (k ≡ suc (carets l + j)) × CaretAt r j v

-- Entry k of the list of places is CaretAt, and the other way round.
pub to_caret : (t : Tree) (k : ℕ) (v : Address) → IsCaret t k v → CaretAt t k v
to_caret leaf k v h = absurd h
to_caret (caret l r) k v h =
    go (at_split (below 𝟎 (caret_places l)) ([] ∷ below 𝟏 (caret_places r)) k v h) (to_caret l) (to_caret r)
  where
    root : (j : ℕ) → k ≡ carets l + j → At ([] ∷ below 𝟏 (caret_places r)) j v
        → ((i : ℕ) (w : Address) → IsCaret r i w → CaretAt r i w) → CaretAt (caret l r) k v
    root zero e p right =
        let q : k ≡ carets l = omega arith in
        subst (λ (w : Address). CaretAt (caret l r) k w) p q
    root (suc j) e p right =
        let q = of_below 𝟏 (caret_places r) j v p in
        subst (λ (w : Address). CaretAt (caret l r) k w) q.1 (j, omega arith, right j q.0 q.2)

    go : At (below 𝟎 (caret_places l)) k v
        ⊎ ((j : ℕ) × (k ≡ length (below 𝟎 (caret_places l)) + j) × At ([] ∷ below 𝟏 (caret_places r)) j v)
        → ((i : ℕ) (w : Address) → IsCaret l i w → CaretAt l i w)
        → ((i : ℕ) (w : Address) → IsCaret r i w → CaretAt r i w) → CaretAt (caret l r) k v
    go (inl p) left right =
        let q = of_below 𝟎 (caret_places l) k v p in
        subst (λ (w : Address). CaretAt (caret l r) k w) q.1 (left k q.0 q.2)
    go (inr p) left right =
        root p.0 (omega (arith, p.1, below_length 𝟎 (caret_places l), carets_numbered l)) p.2 right

pub of_caret : (t : Tree) (k : ℕ) (v : Address) → CaretAt t k v → IsCaret t k v
of_caret leaf k v h = absurd h
of_caret (caret l r) k [] h =
    at_second (below 𝟎 (caret_places l)) ([] ∷ below 𝟏 (caret_places r)) k 0 []
    (omega (arith, h, below_length 𝟎 (caret_places l), carets_numbered l)) refl
of_caret (caret l r) k (𝟎 ∷ v) h =
    at_first (below 𝟎 (caret_places l)) ([] ∷ below 𝟏 (caret_places r)) k (𝟎 ∷ v)
    (to_below 𝟎 (caret_places l) k v (of_caret l k v h))
of_caret (caret l r) k (𝟏 ∷ v) h =
    at_second (below 𝟎 (caret_places l)) ([] ∷ below 𝟏 (caret_places r)) k (suc h.0) (𝟏 ∷ v)
    (omega (arith, h.1, below_length 𝟎 (caret_places l), carets_numbered l))
    (to_below 𝟏 (caret_places r) h.0 v (of_caret r h.0 v h.2))

-- The carets have the numbers below N.
pub caret_lt : (t : Tree) (k : ℕ) (v : Address) → CaretAt t k v → k < carets t
caret_lt t k v h = omega (arith, at_bound (caret_places t) k v (of_caret t k v h), carets_numbered t)

-- The first leaf of a tree is below left edges only, the last below right edges only.
pub first_leaf : (t : Tree) → (n : ℕ) × LeafAt t 0 (left_edges n)
first_leaf leaf = (0, refl)
first_leaf (caret l r) =
    let x = first_leaf l in
    (suc x.0, x.1)

pub last_leaf : (t : Tree) → (m : ℕ) × LeafAt t (carets t) (right_edges m)
last_leaf leaf = (0, refl)
last_leaf (caret l r) =
    let x = last_leaf r in
    (suc x.0, (carets r, omega arith, x.1))

-- The leaves beside a caret, by the sides of the carets.
beside : (t : Tree) (k : ℕ) (v : Address) → CaretAt t k v
    → (m n : ℕ) × LeafAt t k (v ++ (𝟎 ∷ right_edges m)) × LeafAt t (suc k) (v ++ (𝟏 ∷ left_edges n))
beside leaf k v h = absurd h
beside (caret l r) k [] h =
    let p = last_leaf l in
    let q = first_leaf r in
    (p.0, q.0, subst (λ (i : ℕ). LeafAt l i (right_edges p.0)) (sym h) p.1, (0, omega (arith, h), q.1))
beside (caret l r) k (𝟎 ∷ v) h = beside l k v h
beside (caret l r) k (𝟏 ∷ v) h =
    let q = beside r h.0 v h.2 in
    (q.0, q.1, (h.0, h.1, q.2), (suc h.0, omega (arith, h.1), q.3))

-- Leaf k is the last below the left edge of caret k, leaf k + 1 the first below its right edge.
pub caret_between : (t : Tree) (k : ℕ) (v : Address) → IsCaret t k v
    → (m n : ℕ) × IsLeaf t k (v ++ (𝟎 ∷ right_edges m)) × IsLeaf t (suc k) (v ++ (𝟏 ∷ left_edges n))
caret_between t k v h =
    let q = beside t k v (to_caret t k v h) in (
      q.0,
      q.1,
      of_leaf t k (v ++ (𝟎 ∷ right_edges q.0)) q.2,
      of_leaf t (suc k) (v ++ (𝟏 ∷ left_edges q.1)) q.3,
    )

-- The subtree at an address below another.
pub subtree_append : (t : Tree) (u v : Address) (x y : Tree) → Subtree t u x → Subtree x v y → Subtree t (u ++ v) y
subtree_append leaf [] v x y h g = subst (λ (z : Tree). Subtree z v y) (sym h) g
subtree_append (caret l r) [] v x y h g = subst (λ (z : Tree). Subtree z v y) (sym h) g
subtree_append leaf (d ∷ u) v x y h g = absurd h
subtree_append (caret l r) (𝟎 ∷ u) v x y h g = subtree_append l u v x y h g
subtree_append (caret l r) (𝟏 ∷ u) v x y h g = subtree_append r u v x y h g

-- At a caret's address stands a caret over two subtrees.
pub caret_subtree : (t : Tree) (k : ℕ) (v : Address) → IsCaret t k v → (l r : Tree) × Subtree t v (caret l r)
caret_subtree t k v h = go t k v (to_caret t k v h)
  where
    go : (s : Tree) (i : ℕ) (u : Address) → CaretAt s i u → (l r : Tree) × Subtree s u (caret l r)
    go leaf i u p = absurd p
    go (caret l r) i [] p = (l, r, refl)
    go (caret l r) i (𝟎 ∷ u) p = go l i u p
    go (caret l r) i (𝟏 ∷ u) p = go r p.0 u p.2

-- The subtree at its right edge.
pub right_child : (t : Tree) (v : Address) (l r : Tree) → Subtree t v (caret l r) → Subtree t (v ++ (𝟏 ∷ [])) r
right_child t v l r h = subtree_append t v (𝟏 ∷ []) (caret l r) r h refl
