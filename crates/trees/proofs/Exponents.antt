-- The exponents that are read subtree by subtree are those of the leaves (000, definition 2.7).
--     address_exponent u   the exponent of the leaf at an address
--     has_exponents       HasExponents says that the tree's exponents are those of a list, with zeros behind its last
--     side_entries        the same for a side of a form, with side-exponents the way back
-- Assumes nothing.
use mathlib.Core.Path.{◌≡◌, refl, sym, ◌∙◌, ap, ap₂, subst, ◌≡⟨◌⟩◌, ◌∎}
use mathlib.Core.List.{List, [], ◌∷◌, ◌++◌, append_assoc, append-nil, map, map-append}
use mathlib.Core.Logic.{◌↔◌, inl, inr}
use Prim.Native.Nat.{ℕ, zero, suc, ◌+◌, ◌<◌, ◌≤◌}
use native.Mathlib.Omega.{arith}
use native.Mathlib.Decide.{dec_le}
use lib.ListN.{length, length-append, get_or, get_or-eq_default}
use Rattle.lists.specs.inside.Entries.{SameEntries}
use Rattle.lists.proofs.Entries.{at_get_d, at_map}
use Rattle.group.specs.Points.{Digit, 𝟎, 𝟏}
use Rattle.group.specs.Forms.{Side, Form, exponent, exponents}
use Rattle.group.proofs.Exponents.{exponents_at}
use Rattle.trees.specs.Trees.{Tree, leaf, caret, carets, Address, below, leaves, IsLeaf, RightSide}
use Rattle.trees.specs.Exponents.{left_edges, UpFrom, LeafExponent, HasExponents}
use Rattle.trees.specs.Readings.{left_edge, later, exponents_of}
use Rattle.trees.proofs.Leaves.{leaf_of, of_leaf}

-- The number of left edges at the end of an address that has d left edges in front of it.
abbrev pub exponent_from : ℕ → Address → ℕ
exponent_from d [] = d
exponent_from d (𝟎 ∷ u) = exponent_from (suc d) u
exponent_from d (𝟏 ∷ u) = exponent_from 0 u

-- The number of left edges at the end of an address, but not the edge that reaches the right side.
abbrev pub address_exponent : Address → ℕ
address_exponent [] = 0
address_exponent (𝟎 ∷ u) = exponent_from 0 u
address_exponent (𝟏 ∷ u) = address_exponent u

-- A left edge behind others is one more of them.
pub left_edges_past : (d : ℕ) (u : Address) → left_edges d ++ (𝟎 ∷ u) ≡ left_edges (suc d) ++ u
left_edges_past zero u = refl
left_edges_past (suc d) u = ap (λ (w : Address). 𝟎 ∷ w) (left_edges_past d u)

-- A path of so many left edges goes up from the address.
exponent_from_path : (u : Address) (d : ℕ) → (v : Address) × (left_edges d ++ u ≡ v ++ left_edges (exponent_from d u))
exponent_from_path [] d = ([], append-nil (left_edges d))
exponent_from_path (𝟎 ∷ u) d =
    let r = exponent_from_path u (suc d) in
    (r.0, left_edges_past d u ∙ r.1)
exponent_from_path (𝟏 ∷ u) d =
    let r = exponent_from_path u 0 in (
      left_edges d ++ (𝟏 ∷ r.0),
      ap (λ (w : Address). left_edges d ++ (𝟏 ∷ w)) r.1
          ∙ sym (append_assoc (left_edges d) (𝟏 ∷ r.0) (left_edges (exponent_from 0 u))),
    )

-- It does not reach the right side.
exponent_path : (u : Address) → UpFrom u (address_exponent u)
exponent_path [] = inl refl
exponent_path (𝟎 ∷ u) =
    let r = exponent_from_path u 0 in
    inr (𝟎 ∷ r.0, ap (λ (w : Address). 𝟎 ∷ w) r.1, λ h. h)
exponent_path (𝟏 ∷ u) = go (exponent_path u)
  where
    go : UpFrom u (address_exponent u) → UpFrom (𝟏 ∷ u) (address_exponent u)
    go (inl e) = inl e
    go (inr r) = inr (𝟏 ∷ r.0, ap (λ (w : Address). 𝟏 ∷ w) r.1, r.2)

-- All edges of the address are left edges.
pub exponent_from_left : (k d : ℕ) → exponent_from d (left_edges k) ≡ d + k
exponent_from_left zero d = omega arith
exponent_from_left (suc k) d = omega (arith, exponent_from_left k (suc d))

-- It is at least k, where k left edges end the address.
pub exponent_from_longest : (v : Address) (k d : ℕ) → k ≤ exponent_from d (v ++ left_edges k)
exponent_from_longest [] k d = omega (arith, exponent_from_left k d)
exponent_from_longest (𝟎 ∷ v) k d = exponent_from_longest v k (suc d)
exponent_from_longest (𝟏 ∷ v) k d = exponent_from_longest v k 0

exponent_off_side : (v : Address) (k : ℕ) → (RightSide v → ⊥) → k ≤ address_exponent (v ++ left_edges k)
exponent_off_side [] k h = absurd (h tt)
exponent_off_side (𝟎 ∷ v) k h = exponent_from_longest v k 0
exponent_off_side (𝟏 ∷ v) k h = exponent_off_side v k h

-- No longer path of left edges goes up without reaching the right side.
exponent_longest : (u : Address) (k : ℕ) → UpFrom u k → k ≤ address_exponent u
exponent_longest u k (inl e) = omega arith
exponent_longest u k (inr r) = omega (arith, exponent_off_side r.0 k r.2, ap address_exponent r.1)

-- The exponent of the leaf at an address is address_exponent.
pub address_exponent_lem : (u : Address) → LeafExponent u (address_exponent u)
address_exponent_lem u = record { path = exponent_path u; longest = exponent_longest u }

-- A leaf has one exponent.
pub leaf_exponent_is : (u : Address) (e : ℕ) → LeafExponent u e → e ≡ address_exponent u
leaf_exponent_is u e h =
    omega (arith, exponent_longest u e h.path, h.longest (address_exponent u) (exponent_path u))

-- The values at addresses with one edge in front.
map_below : (g : Address → ℕ) (d : Digit) (us : List Address) → map g (below d us) ≡ map (λ u. g (d ∷ u)) us
map_below g d [] = refl
map_below g d (u ∷ us) = ap (λ (l : List ℕ). g (d ∷ u) ∷ l) (map_below g d us)

-- The exponents of the leaves of an interior subtree, and of the tree.
interior_exponents : (t : Tree) (d e : ℕ) → e ≡ d + left_edge t → map (exponent_from d) (leaves t) ≡ e ∷ later t
interior_exponents leaf d e h =
    let q : d ≡ e = omega arith in
    ap (λ (k : ℕ). k ∷ []) q
interior_exponents (caret l r) d e h =
    let of-l : map (exponent_from (suc d)) (leaves l) ≡ e ∷ later l = interior_exponents l (suc d) e (omega arith) in
    let of-r : map (exponent_from 0) (leaves r) ≡ left_edge r ∷ later r =
    interior_exponents r 0 (left_edge r) (omega arith) in
    map (exponent_from d) (below 𝟎 (leaves l) ++ below 𝟏 (leaves r))
    ≡⟨ map-append (exponent_from d) (below 𝟎 (leaves l)) (below 𝟏 (leaves r)) ⟩
    map (exponent_from d) (below 𝟎 (leaves l)) ++ map (exponent_from d) (below 𝟏 (leaves r))
    ≡⟨ ap₂ ◌++◌ (map_below (exponent_from d) 𝟎 (leaves l)) (map_below (exponent_from d) 𝟏 (leaves r)) ⟩
    map (exponent_from (suc d)) (leaves l) ++ map (exponent_from 0) (leaves r)
    ≡⟨ ap₂ ◌++◌ of-l of-r ⟩
    (e ∷ later l) ++ (left_edge r ∷ later r) ∎

leaf_exponents : (t : Tree) → map address_exponent (leaves t) ≡ exponents_of t
leaf_exponents leaf = refl
leaf_exponents (caret l r) =
    map address_exponent (below 𝟎 (leaves l) ++ below 𝟏 (leaves r))
    ≡⟨ map-append address_exponent (below 𝟎 (leaves l)) (below 𝟏 (leaves r)) ⟩
    map address_exponent (below 𝟎 (leaves l)) ++ map address_exponent (below 𝟏 (leaves r))
    ≡⟨ ap₂ ◌++◌ (map_below address_exponent 𝟎 (leaves l)) (map_below address_exponent 𝟏 (leaves r)) ⟩
    map (exponent_from 0) (leaves l) ++ map address_exponent (leaves r)
    ≡⟨ ap₂ ◌++◌ (interior_exponents l 0 (left_edge l) (omega arith)) (leaf_exponents r) ⟩
    (left_edge l ∷ later l) ++ exponents_of r ∎

-- Entry k of the exponents of a tree is the exponent of leaf k.
pub exponent_at_leaf : (t : Tree) (k : ℕ) (u : Address) → IsLeaf t k u → get_or (exponents_of t) k 0 ≡ address_exponent u
exponent_at_leaf t k u h =
    ap (λ (es : List ℕ). get_or es k 0) (sym (leaf_exponents t))
    ∙ at_get_d (map address_exponent (leaves t)) k (address_exponent u) 0 (at_map address_exponent (leaves t) k u h)

-- There is one for each leaf, and behind the last the exponents are 0.
pub later-length : (t : Tree) → length (later t) ≡ carets t
later-length leaf = refl
later-length (caret l r) =
    omega (arith, length-append (later l) (left_edge r ∷ later r), later-length l, later-length r)

pub exponents-length : (t : Tree) → length (exponents_of t) ≡ suc (carets t)
exponents-length leaf = refl
exponents-length (caret l r) =
    omega (arith, length-append (later l) (exponents_of r), later-length l, exponents-length r)

exponents-behind : (t : Tree) (k : ℕ) → carets t < k → get_or (exponents_of t) k 0 ≡ 0
exponents-behind t k h = get_or-eq_default (exponents_of t) 0 (omega (arith, exponents-length t))

-- The same exponents by another function.
pub has_same_exponents : (t : Tree) (e f : ℕ → ℕ) → ((k : ℕ) → e k ≡ f k) → HasExponents t e → HasExponents t f
has_same_exponents t e f same h = record {
  at_leaf = λ k u i. subst (LeafExponent u) (same k) (h.at_leaf k u i);
  behind_last = λ k i. sym (same k) ∙ h.behind_last k i;
}

-- Leaf k has the exponent es_k, for every leaf, just when the list has the entries of the tree's exponents.
pub has_exponents : (t : Tree) (es : List ℕ) → HasExponents t (λ k. get_or es k 0) ↔ SameEntries (exponents_of t) es
has_exponents t es = ((λ h i. entry h i (dec_le i (carets t))), back)
  where
    entry : HasExponents t (λ k. get_or es k 0) → (i : ℕ) → Dec (i ≤ carets t)
        → get_or (exponents_of t) i 0 ≡ get_or es i 0
    entry h i (yes c) =
        let u = leaf_of t i c in
        let is_leaf : IsLeaf t i u.0 = of_leaf t i u.0 u.1 in
        exponent_at_leaf t i u.0 is_leaf
        ∙ sym (leaf_exponent_is u.0 (get_or es i 0) (h.at_leaf i u.0 is_leaf))
    entry h i (no c) = exponents-behind t i (omega arith) ∙ sym (h.behind_last i (omega arith))

    back : SameEntries (exponents_of t) es → HasExponents t (λ k. get_or es k 0)
    back e = record {
      at_leaf = λ k u h. subst (LeafExponent u) (sym (exponent_at_leaf t k u h) ∙ e k) (address_exponent_lem u);
      behind_last = λ k h. sym (e k) ∙ exponents-behind t k h;
    }

-- A tree has the exponents of a side of a form just when those read subtree by subtree are the same.
pub side_entries : (s : Side) (f : Form) (t : Tree) → HasExponents t (exponent s f)
    → SameEntries (exponents_of t) (exponents s f)
side_entries s f t h =
    (has_exponents t (exponents s f)).0
    (has_same_exponents t (exponent s f) (λ k. get_or (exponents s f) k 0) (λ k. sym (exponents_at s f k)) h)

pub side_exponents : (s : Side) (f : Form) (t : Tree) → SameEntries (exponents_of t) (exponents s f)
    → HasExponents t (exponent s f)
side_exponents s f t e =
    has_same_exponents t (λ k. get_or (exponents s f) k 0) (exponent s f) (exponents_at s f)
    ((has_exponents t (exponents s f)).1 e)
