-- The class of a caret by its address (01, 'The tree pair and the length'): the reading of a tree from left to right
-- gives each caret the class that its place has.
--     in_order g t         a list over the carets, from the address of each and its right child
--     address_class v c    the class of a caret at v; c is its class where it is interior
-- Assumes nothing.
use mathlib.Core.Path.{◌≡◌, refl, ap, ap₂, subst}
use mathlib.Core.List.{List, [], ◌∷◌, ◌++◌}
use Prim.Native.Nat.{ℕ, suc}
use native.Mathlib.Omega.{arith}
use lib.ListN.{length, length-append}
use Rattle.lists.specs.Entries.{At}
use Rattle.lists.proofs.Entries.{at_first, at_second}
use Rattle.group.specs.Points.{𝟎, 𝟏}
use Rattle.trees.specs.Trees.{Tree, leaf, caret, carets, Address, IsCaret, Subtree, LeftSide, RightSide}
use Rattle.trees.proofs.Carets.{CaretAt, to_caret}
use Rattle.lengths.specs.Classes.{
  Class,
  on_left,
  on_right,
  inside_over,
  inside_classes,
  left_classes,
  right_classes,
  classes,
}

-- A list over the carets from left to right, from the address of each and its right child.
abbrev in_order : {A : Type 0} → (Address → Tree → A) → Tree → List A
in_order g leaf = []
in_order g (caret l r) = in_order (λ v. g (𝟎 ∷ v)) l ++ (g [] r ∷ in_order (λ v. g (𝟏 ∷ v)) r)

in_order_length : {A : Type 0} (g : Address → Tree → A) (t : Tree) → length (in_order g t) ≡ carets t
in_order_length g leaf = refl
in_order_length g (caret l r) =
    omega (
      arith,
      length-append (in_order (λ v. g (𝟎 ∷ v)) l) (g [] r ∷ in_order (λ v. g (𝟏 ∷ v)) r),
      in_order_length (λ v. g (𝟎 ∷ v)) l,
      in_order_length (λ v. g (𝟏 ∷ v)) r,
    )

-- Its entry k is that of caret k.
in_order_at : {A : Type 0} (g : Address → Tree → A) (t : Tree) (k : ℕ) (v : Address) (x : Tree)
    → CaretAt t k v → Subtree t (v ++ (𝟏 ∷ [])) x → At (in_order g t) k (g v x)
in_order_at g leaf k v x h s = absurd h
in_order_at g (caret l r) k [] x h s =
    at_second (in_order (λ v. g (𝟎 ∷ v)) l) (g [] r ∷ in_order (λ v. g (𝟏 ∷ v)) r) k 0 (g [] x)
    (omega (arith, h, in_order_length (λ v. g (𝟎 ∷ v)) l)) (ap (g []) s)
in_order_at g (caret l r) k (𝟎 ∷ v) x h s =
    at_first (in_order (λ v. g (𝟎 ∷ v)) l) (g [] r ∷ in_order (λ v. g (𝟏 ∷ v)) r) k (g (𝟎 ∷ v) x)
    (in_order_at (λ v. g (𝟎 ∷ v)) l k v x h s)
in_order_at g (caret l r) k (𝟏 ∷ v) x h s =
    at_second (in_order (λ v. g (𝟎 ∷ v)) l) (g [] r ∷ in_order (λ v. g (𝟏 ∷ v)) r) k (suc h.0) (g (𝟏 ∷ v) x)
    (omega (arith, h.1, in_order_length (λ v. g (𝟎 ∷ v)) l))
    (in_order_at (λ v. g (𝟏 ∷ v)) r h.0 v x h.2 s)

-- The class by the address: on the left side with the root, on the right side without it, or what it is inside.
abbrev pub left_class : Address → Class → Class
left_class [] c = on_left
left_class (𝟎 ∷ v) c = left_class v c
left_class (𝟏 ∷ v) c = c

abbrev pub right_class : Address → Class → Class
right_class [] c = on_right
right_class (𝟎 ∷ v) c = c
right_class (𝟏 ∷ v) c = right_class v c

abbrev pub address_class : Address → Class → Class
address_class [] c = on_left
address_class (𝟎 ∷ v) c = left_class v c
address_class (𝟏 ∷ v) c = right_class v c

-- The classes are this list.
inside_order : (t : Tree) → in_order (λ v r. inside_over r) t ≡ inside_classes t
inside_order leaf = refl
inside_order (caret l r) =
    ap₂ (λ (x y : List Class). x ++ (inside_over r ∷ y)) (inside_order l) (inside_order r)

left_order : (t : Tree) → in_order (λ v r. left_class v (inside_over r)) t ≡ left_classes t
left_order leaf = refl
left_order (caret l r) = ap₂ (λ (x y : List Class). x ++ (on_left ∷ y)) (left_order l) (inside_order r)

right_order : (t : Tree) → in_order (λ v r. right_class v (inside_over r)) t ≡ right_classes t
right_order leaf = refl
right_order (caret l r) = ap₂ (λ (x y : List Class). x ++ (on_right ∷ y)) (inside_order l) (right_order r)

classes_order : (t : Tree) → in_order (λ v r. address_class v (inside_over r)) t ≡ classes t
classes_order leaf = refl
classes_order (caret l r) = ap₂ (λ (x y : List Class). x ++ (on_left ∷ y)) (left_order l) (right_order r)

-- The class of caret k, by its address and its right child.
pub class_at : (t : Tree) (k : ℕ) (v : Address) (x : Tree) → IsCaret t k v → Subtree t (v ++ (𝟏 ∷ [])) x
    → At (classes t) k (address_class v (inside_over x))
class_at t k v x h s =
    subst (λ (cs : List Class). At cs k (address_class v (inside_over x))) (classes_order t)
    (in_order_at (λ v r. address_class v (inside_over r)) t k v x (to_caret t k v h) s)

-- The sides of addresses.
pub class_left : (v : Address) (c : Class) → LeftSide v → address_class v c ≡ on_left
class_left [] c h = refl
class_left (𝟎 ∷ v) c h = below_left v h
  where
    below_left : (u : Address) → LeftSide u → left_class u c ≡ on_left
    below_left [] p = refl
    below_left (𝟎 ∷ u) p = below_left u p
    below_left (𝟏 ∷ u) p = absurd p
class_left (𝟏 ∷ v) c h = absurd h

pub class_right : (v : Address) (c : Class) → RightSide v → (v ≡ [] → ⊥) → address_class v c ≡ on_right
class_right [] c h n = absurd (n refl)
class_right (𝟎 ∷ v) c h n = absurd h
class_right (𝟏 ∷ v) c h n = below_right v h
  where
    below_right : (u : Address) → RightSide u → right_class u c ≡ on_right
    below_right [] p = refl
    below_right (𝟎 ∷ u) p = absurd p
    below_right (𝟏 ∷ u) p = below_right u p

pub class_interior : (v : Address) (c : Class) → (LeftSide v → ⊥) → (RightSide v → ⊥) → address_class v c ≡ c
class_interior [] c h g = absurd (h tt)
class_interior (𝟎 ∷ v) c h g = off_left v h
  where
    off_left : (u : Address) → (LeftSide u → ⊥) → left_class u c ≡ c
    off_left [] p = absurd (p tt)
    off_left (𝟎 ∷ u) p = off_left u p
    off_left (𝟏 ∷ u) p = refl
class_interior (𝟏 ∷ v) c h g = off_right v g
  where
    off_right : (u : Address) → (RightSide u → ⊥) → right_class u c ≡ c
    off_right [] p = absurd (p tt)
    off_right (𝟎 ∷ u) p = refl
    off_right (𝟏 ∷ u) p = off_right u p
