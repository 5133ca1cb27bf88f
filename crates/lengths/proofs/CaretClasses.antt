-- The classes that are read from a tree are those of its carets (01, 'The tree pair and the length').
--     IsClass t k c   caret k has the class c, by the side that it is on and by its right child
--     class_is        this says that entry k of the classes is c
-- Assumes nothing.
use mathlib.Core.Path.{◌≡◌, sym, ◌∙◌, subst}
use mathlib.Core.List.{[], ◌∷◌, ◌++◌}
use mathlib.Core.Logic.{◌↔◌}
use Prim.Native.Nat.{ℕ, ◌<◌}
use native.Mathlib.Omega.{arith}
use lib.Dec.{T}
use Rattle.lists.specs.Entries.{At}
use Rattle.lists.proofs.Entries.{at_bound, at_exists, at_same}
use Rattle.group.specs.Points.{𝟎, 𝟏}
use Rattle.trees.specs.Trees.{
  Tree,
  leaf,
  caret,
  carets,
  Address,
  caret_places,
  IsCaret,
  Subtree,
  LeftSide,
  RightSide,
}
use Rattle.trees.proofs.Carets.{carets_numbered, caret_subtree, right_child}
use Rattle.lengths.specs.Classes.{Class, on_left, on_right, inside_leaf, inside_caret, inside_over, classes}
use Rattle.lengths.specs.Kinds.{IsOnLeft, IsOnRight, Interior, RightLeaf, inside}
use Rattle.lengths.proofs.ShapeClasses.{classes-length}
use Rattle.lengths.proofs.LaterKinds.{IsInside}
use Rattle.lengths.proofs.Places.{address_class, class_at, class_left, class_right, class_interior}

-- Caret k of the tree has the class.
abbrev pub IsClass : Tree → ℕ → Class → Type 0
IsClass t k on_left = IsOnLeft t k
IsClass t k on_right = IsOnRight t k
IsClass t k inside_leaf = Interior t k × RightLeaf t k
IsClass t k inside_caret = Interior t k × (RightLeaf t k → ⊥)

-- There is one subtree at an address.
subtree_same : (t : Tree) (u : Address) (x y : Tree) → Subtree t u x → Subtree t u y → x ≡ y
subtree_same t [] x y h g = sym h ∙ g
subtree_same leaf (d ∷ u) x y h g = absurd h
subtree_same (caret l r) (𝟎 ∷ u) x y h g = subtree_same l u x y h g
subtree_same (caret l r) (𝟏 ∷ u) x y h g = subtree_same r u x y h g

-- A number below N is that of a caret, which has an address and a right child.
pub caret_of : (t : Tree) (k : ℕ) → k < carets t → (v : Address) × IsCaret t k v
caret_of t k h = at_exists (caret_places t) k (omega (arith, carets_numbered t))

pub child_of : (t : Tree) (k : ℕ) (v : Address) → IsCaret t k v → (x : Tree) × Subtree t (v ++ (𝟏 ∷ [])) x
child_of t k v h =
    let s = caret_subtree t k v h in
    (s.1, right_child t v s.0 s.1 s.2)

-- The right child of the caret at an address is a leaf, or it is not.
right_leaf : (t : Tree) (k : ℕ) (v : Address) → IsCaret t k v → RightLeaf t k → Subtree t (v ++ (𝟏 ∷ [])) leaf
right_leaf t k v h p =
    subst (λ (u : Address). Subtree t (u ++ (𝟏 ∷ [])) leaf) (at_same (caret_places t) k p.0 v p.1 h) p.2

pub right_caret : (t : Tree) (k : ℕ) (v : Address) (l r : Tree) → IsCaret t k v → Subtree t (v ++ (𝟏 ∷ [])) (caret l r)
    → RightLeaf t k → ⊥
right_caret t k v l r h s p =
    let e : caret l r ≡ leaf = subtree_same t (v ++ (𝟏 ∷ [])) (caret l r) leaf s (right_leaf t k v h p) in
    let w : ◌≡◌ {A = ℕ} 0 1 = cc in
    omega arith

-- An address is on a side or not.
dec_left : (v : Address) → Dec (LeftSide v)
dec_left [] = yes tt
dec_left (𝟎 ∷ v) = dec_left v
dec_left (𝟏 ∷ v) = no (λ h. h)

dec_right : (v : Address) → Dec (RightSide v)
dec_right [] = yes tt
dec_right (𝟎 ∷ v) = no (λ h. h)
dec_right (𝟏 ∷ v) = dec_right v

-- The caret at an address has the class of the address.
class_of : (t : Tree) (k : ℕ) (v : Address) (x : Tree) → IsCaret t k v → Subtree t (v ++ (𝟏 ∷ [])) x
    → IsClass t k (address_class v (inside_over x))
class_of t k v x h s = left (dec_left v)
  where
    interior : (y : Tree) → Subtree t (v ++ (𝟏 ∷ [])) y → (LeftSide v → ⊥) → (RightSide v → ⊥)
        → IsClass t k (inside_over y)
    interior leaf p a b = ((v, h, a, b), (v, h, p))
    interior (caret l r) p a b = ((v, h, a, b), right_caret t k v l r h p)

    right : (LeftSide v → ⊥) → Dec (RightSide v) → IsClass t k (address_class v (inside_over x))
    right a (yes b) =
        let root : v ≡ [] → ⊥ = λ e. a (subst LeftSide (sym e) tt) in
        subst (IsClass t k) (sym (class_right v (inside_over x) b root)) (v, h, b, root)
    right a (no b) = subst (IsClass t k) (sym (class_interior v (inside_over x) a b)) (interior x s a b)

    left : Dec (LeftSide v) → IsClass t k (address_class v (inside_over x))
    left (yes a) = subst (IsClass t k) (sym (class_left v (inside_over x) a)) (v, h, a)
    left (no a) = right a (dec_right v)

-- From the sentences to the entry.
interior_entry : (t : Tree) (k : ℕ) (h : Interior t k) (x : Tree) → Subtree t (h.0 ++ (𝟏 ∷ [])) x
    → At (classes t) k (inside_over x)
interior_entry t k h x s =
    subst (At (classes t) k) (class_interior h.0 (inside_over x) h.2 h.3) (class_at t k h.0 x h.1 s)

class_entry : (t : Tree) (k : ℕ) (c : Class) → IsClass t k c → At (classes t) k c
class_entry t k on_left h =
    let x = child_of t k h.0 h.1 in
    subst (At (classes t) k) (class_left h.0 (inside_over x.0) h.2) (class_at t k h.0 x.0 h.1 x.1)
class_entry t k on_right h =
    let x = child_of t k h.0 h.1 in
    subst (At (classes t) k) (class_right h.0 (inside_over x.0) h.2 h.3)
    (class_at t k h.0 x.0 h.1 x.1)
class_entry t k inside_leaf h =
    interior_entry t k h.0 leaf (right_leaf t k h.0.0 h.0.1 h.1)
class_entry t k inside_caret h =
    let x = child_of t k h.0.0 h.0.1 in
    go x.0 x.1
  where
    go : (x : Tree) → Subtree t (h.0.0 ++ (𝟏 ∷ [])) x → At (classes t) k inside_caret
    go leaf s = absurd (h.1 (h.0.0, h.0.1, s))
    go (caret l r) s = interior_entry t k h.0 (caret l r) s

-- Caret k has the class c just when entry k of the classes is c.
pub class_is : (t : Tree) (k : ℕ) (c : Class) → IsClass t k c ↔ At (classes t) k c
class_is t k c = (class_entry t k c, back)
  where
    back : At (classes t) k c → IsClass t k c
    back h =
        let v = caret_of t k (omega (arith, at_bound (classes t) k c h, classes-length t)) in
        let x = child_of t k v.0 v.1 in
        let d = address_class v.0 (inside_over x.0) in
        let e : d ≡ c = at_same (classes t) k d c (class_at t k v.0 x.0 v.1 x.1) h in
        subst (IsClass t k) e (class_of t k v.0 x.0 v.1 x.1)

-- Caret k is interior just when entry k of the classes is one of the two interior ones.
pub interior_is : (t : Tree) (k : ℕ) → Interior t k ↔ IsInside (classes t) k
interior_is t k = (forth, back)
  where
    is_inside : (x : Tree) → T (inside (inside_over x))
    is_inside leaf = tt
    is_inside (caret l r) = tt

    forth : Interior t k → IsInside (classes t) k
    forth h =
        let x = child_of t k h.0 h.1 in
        (inside_over x.0, interior_entry t k h x.0 x.1, is_inside x.0)

    of_class : (c : Class) → IsClass t k c → T (inside c) → Interior t k
    of_class on_left p i = absurd i
    of_class on_right p i = absurd i
    of_class inside_leaf p i = p.0
    of_class inside_caret p i = p.0

    back : IsInside (classes t) k → Interior t k
    back h = of_class h.0 ((class_is t k h.0).1 h.1) h.2
