-- Where the exponents of a tree say that a caret with two leaves stands, one stands: the way back from Exposed (000,
-- definitions 2.4 and 2.7, for theorem 2.6).
--     exposed_inside   leaf i has an exponent above 0 and leaf i + 1 the exponent 0: they are on one caret
--     exposed_last     one caret less would do for the exponents: the last two leaves are on one caret
-- Assumes nothing.
use mathlib.Core.Path.{◌≡◌, refl, sym, ◌∙◌, ap, subst, ◌≡⟨◌⟩◌, ◌∎}
use mathlib.Core.List.{List, [], ◌∷◌, ◌++◌, append_assoc, append-nil}
use mathlib.Core.Logic.{inl, inr}
use Prim.Native.Nat.{ℕ, zero, suc, ◌<◌, ◌≤◌}
use native.Mathlib.Omega.{arith}
use lib.ListN.{get_or}
use Rattle.lists.specs.inside.Entries.{SameEntries}
use Rattle.lists.proofs.Totals.{same_append, same_zeros}
use Rattle.group.specs.Points.{𝟎, 𝟏}
use Rattle.trees.specs.Trees.{Tree, leaf, caret, carets, Address, RightSide}
use Rattle.trees.specs.Exponents.{left_edges, UpFrom}
use Rattle.trees.specs.Building.{needed, tree_of}
use Rattle.trees.specs.Pairs.{Exposed}
use Rattle.trees.specs.Readings.{left_edge, later, exponents_of}
use Rattle.trees.proofs.Leaves.{LeafAt, of_leaf, leaf_of}
use Rattle.trees.proofs.Exponents.{left_edges_past, address_exponent, address_exponent_lem, exponent_at_leaf}
use Rattle.trees.proofs.Carets.{first_leaf}
use Rattle.trees.proofs.Rows.{tree_only}
use Rattle.trees.proofs.Built.{tree_holds, tree_carets, tree_exponents}
use Rattle.trees.proofs.Exposed.{next_exponent}

-- The leaf behind a left leaf is the first leaf of the right subtree.
next_leaf : (t : Tree) (i : ℕ) (v : Address) → LeafAt t i (v ++ (𝟎 ∷ []))
    → (m : ℕ) × LeafAt t (suc i) (v ++ (𝟏 ∷ left_edges m))
next_leaf leaf i [] p = absurd p
next_leaf leaf i (d ∷ v) p = absurd p
next_leaf (caret leaf r) i [] p =
    let x = first_leaf r in
    let z : i ≡ 0 = p in
    (x.0, (0, omega arith, x.1))
next_leaf (caret (caret l m) r) i [] p = absurd p
next_leaf (caret l r) i (𝟎 ∷ v) p = next_leaf l i v p
next_leaf (caret l r) i (𝟏 ∷ v) p =
    let x = next_leaf r p.0 v p.2 in
    (x.0, (suc p.0, omega (arith, p.1), x.1))

-- The last of some left edges.
left_edges_last : (v : Address) (k : ℕ) → v ++ left_edges (suc k) ≡ (v ++ left_edges k) ++ (𝟎 ∷ [])
left_edges_last v k =
    v ++ left_edges (suc k) ≡⟨ ap (λ (w : Address). v ++ w) (sym (append-nil (left_edges (suc k)))) ⟩
    v ++ (left_edges (suc k) ++ []) ≡⟨ ap (λ (w : Address). v ++ w) (sym (left_edges_past k [])) ⟩
    v ++ (left_edges k ++ (𝟎 ∷ [])) ≡⟨ sym (append_assoc v (left_edges k) (𝟎 ∷ [])) ⟩
    (v ++ left_edges k) ++ (𝟎 ∷ []) ∎

-- Below a node off the right side, all is off the right side.
off_side : (v w : Address) → (RightSide v → ⊥) → RightSide (v ++ w) → ⊥
off_side [] w h s = h tt
off_side (𝟎 ∷ v) w h s = s
off_side (𝟏 ∷ v) w h s = off_side v w h s

-- A leaf with an exponent above 0 is the left leaf of a caret off the right side.
exponent-ends : (u : Address) → 0 < address_exponent u → (v : Address) × (u ≡ v ++ (𝟎 ∷ [])) × (RightSide v → ⊥)
exponent-ends u = go (address_exponent u) (address_exponent_lem u).path
  where
    go : (e : ℕ) → UpFrom u e → 0 < e → (v : Address) × (u ≡ v ++ (𝟎 ∷ [])) × (RightSide v → ⊥)
    go zero p h = absurd (omega arith)
    go (suc k) (inl e) h = absurd (omega arith)
    go (suc k) (inr r) h =
        (r.0 ++ left_edges k, r.1 ∙ left_edges_last r.0 k, off_side r.0 (left_edges k) r.2)

-- A leaf with an exponent above 0, and behind it one with the exponent 0: the two leaves of a caret.
pub exposed_inside : (t : Tree) (i : ℕ) → 0 < get_or (exponents_of t) i 0 → get_or (exponents_of t) (suc i) 0 ≡ 0
    → Exposed t i
exposed_inside t i p z = start (leaf_of t i (omega (arith, tree_holds t (exponents_of t) (λ j. refl) i p)))
  where
    both : (v : Address) (m : ℕ) → LeafAt t i (v ++ (𝟎 ∷ [])) → LeafAt t (suc i) (v ++ (𝟏 ∷ left_edges m)) → m ≡ 0
        → Exposed t i
    both v m l r e = record {
      top = v;
      left = of_leaf t i (v ++ (𝟎 ∷ [])) l;
      right =
          of_leaf t (suc i) (v ++ (𝟏 ∷ []))
          (subst (λ (k : ℕ). LeafAt t (suc i) (v ++ (𝟏 ∷ left_edges k))) e r);
    }

    next : (v : Address) → LeafAt t i (v ++ (𝟎 ∷ [])) → (RightSide v → ⊥)
        → (m : ℕ) × LeafAt t (suc i) (v ++ (𝟏 ∷ left_edges m)) → Exposed t i
    next v l s n =
        let u : Address = v ++ (𝟏 ∷ left_edges n.0) in
        both v n.0 l n.1
        (omega (arith, z, next_exponent v n.0 s, exponent_at_leaf t (suc i) u (of_leaf t (suc i) u n.1)))

    here : (u : Address) → LeafAt t i u → (v : Address) × (u ≡ v ++ (𝟎 ∷ [])) × (RightSide v → ⊥) → Exposed t i
    here u l e =
        let k : LeafAt t i (e.0 ++ (𝟎 ∷ [])) = subst (λ (w : Address). LeafAt t i w) e.1 l in
        next e.0 k e.2 (next_leaf t i e.0 k)

    start : (u : Address) × LeafAt t i u → Exposed t i
    start u =
        here u.0 u.1
        (exponent-ends u.0 (omega (arith, p, exponent_at_leaf t i u.0 (of_leaf t i u.0 u.1))))

-- A tree with one caret more, at the end of its right side.
abbrev extended : Tree → Tree
extended leaf = caret leaf leaf
extended (caret l r) = caret l (extended r)

extended_carets : (t : Tree) → carets (extended t) ≡ suc (carets t)
extended_carets leaf = omega arith
extended_carets (caret l r) = omega (arith, extended_carets r)

extended_same : (t : Tree) → SameEntries (exponents_of (extended t)) (exponents_of t)
extended_same leaf = λ j. sym (same_zeros j)
extended_same (caret l r) =
    same_append (left_edge l ∷ later l) (exponents_of (extended r)) (exponents_of r) (extended_same r)

extended_leaves : (t : Tree)
    → (v : Address) × LeafAt (extended t) (carets t) (v ++ (𝟎 ∷ []))
    × LeafAt (extended t) (suc (carets t)) (v ++ (𝟏 ∷ []))
extended_leaves leaf = ([], refl, (0, omega arith, refl))
extended_leaves (caret l r) =
    let x = extended_leaves r in
    (𝟏 ∷ x.0, (carets r, omega arith, x.1), (suc (carets r), omega arith, x.2))

-- A tree with one caret more than would do has its last leaves on one caret.
pub exposed_last : (t : Tree) (es : List ℕ) (n : ℕ) → carets t ≡ suc n → SameEntries (exponents_of t) es
    → needed 0 es ≤ n → Exposed t n
exposed_last t es n c e h = subst (λ (u : Tree). Exposed u n) same found
  where
    s : Tree
    s = tree_of n es

    size : carets s ≡ n
    size = tree_carets n es h

    same : extended s ≡ t
    same =
        tree_only (extended s) t es
        (omega (arith, extended_carets s, size, c))
        (λ j. extended_same s j ∙ tree_exponents n es h j)
        e

    found : Exposed (extended s) n
    found =
        let x = extended_leaves s in
        let l : Address = x.0 ++ (𝟎 ∷ []) in
        let r : Address = x.0 ++ (𝟏 ∷ []) in
        record {
          top = x.0;
          left = of_leaf (extended s) n l (subst (λ (k : ℕ). LeafAt (extended s) k l) size x.1);
          right = of_leaf (extended s) (suc n) r (subst (λ (k : ℕ). LeafAt (extended s) (suc k) r) size x.2);
        }
