-- The nodes of a tree by their numbers, and those of a subtree (01, 'The tree pair and the length').
--     NodeAt t k u    node k is at the address u, by the sides of the carets: the same as Node t k u
--     subtree_nodes   the nodes in the subtree x of node k are those from k to before k + 2M + 1, M the carets of x
-- Assumes nothing.
use mathlib.Core.Path.{◌≡◌, refl, sym, subst}
use mathlib.Core.List.{[], ◌∷◌, ◌++◌}
use mathlib.Core.Logic.{◌⊎◌, inl, inr, ◌↔◌}
use Prim.Native.Nat.{ℕ, zero, suc, ◌+◌, ◌-◌, ◌<◌, ◌≤◌}
use native.Mathlib.Omega.{arith}
use lib.ListN.{length}
use Rattle.lists.specs.Entries.{At}
use Rattle.lists.proofs.Entries.{at_first, at_second, at_split, at_bound, at_exists}
use Rattle.group.specs.Points.{𝟎, 𝟏}
use Rattle.trees.specs.Trees.{Tree, leaf, caret, carets, Address, below, Subtree}
use Rattle.trees.specs.Shapes.{shape_size, nodes, Node}
use Rattle.trees.proofs.Leaves.{below_length, both-length, to_below, of_below}

-- A tree with N carets has 2N + 1 nodes.
pub nodes-length : (t : Tree) → length (nodes t) ≡ shape_size (carets t)
nodes-length leaf = refl
nodes-length (caret l r) = omega (arith, both-length (nodes l) (nodes r), nodes-length l, nodes-length r)

-- Node k is at the address u, by the sides of the carets.
abbrev pub NodeAt : Tree → ℕ → Address → Type 0
NodeAt t k [] = k ≡ 0
NodeAt leaf k (d ∷ u) = ⊥
NodeAt (caret l r) k (𝟎 ∷ u) = (j : ℕ) × (k ≡ suc j) × NodeAt l j u
NodeAt (caret l r) k (𝟏 ∷ u) = (j : ℕ) × (k ≡ suc (shape_size (carets l) + j)) × NodeAt r j u

-- Entry k of the list of nodes is NodeAt, and the other way round.
pub to_node : (t : Tree) (k : ℕ) (u : Address) → Node t k u → NodeAt t k u
to_node leaf zero u h = subst (λ (w : Address). NodeAt leaf 0 w) h refl
to_node leaf (suc k) u h = absurd h
to_node (caret l r) zero u h = subst (λ (w : Address). NodeAt (caret l r) 0 w) h refl
to_node (caret l r) (suc k) u h = go (at_split (below 𝟎 (nodes l)) (below 𝟏 (nodes r)) k u h) (to_node l) (to_node r)
  where
    go : At (below 𝟎 (nodes l)) k u ⊎ ((j : ℕ) × (k ≡ length (below 𝟎 (nodes l)) + j) × At (below 𝟏 (nodes r)) j u)
        → ((i : ℕ) (w : Address) → Node l i w → NodeAt l i w)
        → ((i : ℕ) (w : Address) → Node r i w → NodeAt r i w) → NodeAt (caret l r) (suc k) u
    go (inl p) left right =
        let q = of_below 𝟎 (nodes l) k u p in
        subst (λ (w : Address). NodeAt (caret l r) (suc k) w) q.1 (k, refl, left k q.0 q.2)
    go (inr p) left right =
        let q = of_below 𝟏 (nodes r) p.0 u p.2 in
        subst (λ (w : Address). NodeAt (caret l r) (suc k) w) q.1
        (p.0, omega (arith, p.1, below_length 𝟎 (nodes l), nodes-length l), right p.0 q.0 q.2)

pub of_node : (t : Tree) (k : ℕ) (u : Address) → NodeAt t k u → Node t k u
of_node leaf k [] h = rw h refl
of_node (caret l r) k [] h = rw h refl
of_node leaf k (d ∷ u) h = absurd h
of_node (caret l r) zero (𝟎 ∷ u) h = absurd (omega (arith, h.1))
of_node (caret l r) (suc k) (𝟎 ∷ u) h =
    let e : h.0 ≡ k = omega (arith, h.1) in
    at_first (below 𝟎 (nodes l)) (below 𝟏 (nodes r)) k (𝟎 ∷ u)
    (to_below 𝟎 (nodes l) k u (subst (λ (i : ℕ). Node l i u) e (of_node l h.0 u h.2)))
of_node (caret l r) zero (𝟏 ∷ u) h = absurd (omega (arith, h.1))
of_node (caret l r) (suc k) (𝟏 ∷ u) h =
    at_second (below 𝟎 (nodes l)) (below 𝟏 (nodes r)) k h.0 (𝟏 ∷ u)
    (omega (arith, h.1, below_length 𝟎 (nodes l), nodes-length l))
    (to_below 𝟏 (nodes r) h.0 u (of_node r h.0 u h.2))

-- The nodes have the numbers below 2N + 1, and each of these has a node.
pub node_lt : (t : Tree) (k : ℕ) (u : Address) → NodeAt t k u → k < shape_size (carets t)
node_lt t k u h = omega (arith, at_bound (nodes t) k u (of_node t k u h), nodes-length t)

pub node_of : (t : Tree) (k : ℕ) → k < shape_size (carets t) → (u : Address) × NodeAt t k u
node_of t k h =
    let x = at_exists (nodes t) k (omega (arith, nodes-length t)) in
    (x.0, to_node t k x.0 x.1)

-- A node of the subtree x of node k has a number in x and, behind k, one in the whole tree.
node_outside : (t : Tree) (k : ℕ) (u : Address) (x : Tree) (i j : ℕ) (v : Address) → NodeAt t k u → Subtree t u x
    → NodeAt x i v → j ≡ k + i → NodeAt t j (u ++ v)
node_outside leaf k [] x i j v h g n e =
    let d : i ≡ j = omega (arith, h) in
    subst (λ (m : ℕ). NodeAt leaf m v) d (subst (λ (s : Tree). NodeAt s i v) (sym g) n)
node_outside (caret l r) k [] x i j v h g n e =
    let d : i ≡ j = omega (arith, h) in
    subst (λ (m : ℕ). NodeAt (caret l r) m v) d (subst (λ (s : Tree). NodeAt s i v) (sym g) n)
node_outside leaf k (d ∷ u) x i j v h g n e = absurd h
node_outside (caret l r) k (𝟎 ∷ u) x i j v h g n e =
    (h.0 + i, omega (arith, h.1), node_outside l h.0 u x i (h.0 + i) v h.2 g n refl)
node_outside (caret l r) k (𝟏 ∷ u) x i j v h g n e =
    (h.0 + i, omega (arith, h.1), node_outside r h.0 u x i (h.0 + i) v h.2 g n refl)

node_inside : (t : Tree) (k : ℕ) (u : Address) (x : Tree) (j : ℕ) (v : Address) → NodeAt t k u → Subtree t u x
    → NodeAt t j (u ++ v) → (i : ℕ) × (j ≡ k + i) × NodeAt x i v
node_inside leaf k [] x j v h g n = (j, omega (arith, h), subst (λ (s : Tree). NodeAt s j v) g n)
node_inside (caret l r) k [] x j v h g n = (j, omega (arith, h), subst (λ (s : Tree). NodeAt s j v) g n)
node_inside leaf k (d ∷ u) x j v h g n = absurd h
node_inside (caret l r) k (𝟎 ∷ u) x j v h g n =
    let q = node_inside l h.0 u x n.0 v h.2 g n.2 in
    (q.0, omega (arith, h.1, n.1, q.1), q.2)
node_inside (caret l r) k (𝟏 ∷ u) x j v h g n =
    let q = node_inside r h.0 u x n.0 v h.2 g n.2 in
    (q.0, omega (arith, h.1, n.1, q.1), q.2)

-- The nodes in the subtree x of node k are those from k to just before k + 2M + 1.
pub subtree_nodes : (t : Tree) (k : ℕ) (u : Address) (x : Tree) → Node t k u → Subtree t u x
    → (j : ℕ) → ((v : Address) × Node t j (u ++ v)) ↔ ((k ≤ j) × (j < k + shape_size (carets x)))
subtree_nodes t k u x h g j = (there, back)
  where
    there : (v : Address) × Node t j (u ++ v) → (k ≤ j) × (j < k + shape_size (carets x))
    there n =
        let q = node_inside t k u x j n.0 (to_node t k u h) g (to_node t j (u ++ n.0) n.1) in
        (omega (arith, q.1), omega (arith, q.1, node_lt x q.0 n.0 q.2))

    back : (k ≤ j) × (j < k + shape_size (carets x)) → (v : Address) × Node t j (u ++ v)
    back b =
        let n = node_of x (j - k) (omega (arith, b.0, b.1)) in (
          n.0,
          of_node t j (u ++ n.0)
              (node_outside t k u x (j - k) j n.0 (to_node t k u h) g n.1 (omega (arith, b.0))),
        )
