-- One pass over the bytes of a shape gives the classes of the tree's carets (01, 'The tree pair and the length').
--     closing s o l    what follows an interior subtree whose shape is in front of s
--     shape-classes    the classes read from a shape are those of its tree
-- Assumes nothing.
use mathlib.Core.Path.{◌≡◌, refl, sym, ◌∙◌, ap, ap₂}
use mathlib.Core.List.{List, ◌∷◌, ◌++◌, append_assoc}
use Prim.Native.Nat.{ℕ, zero, suc}
use native.Mathlib.Omega.{arith}
use lib.ListN.{get_or, length, length-append}
use Rattle.trees.specs.Trees.{Tree, leaf, caret, carets}
use Rattle.trees.specs.Shapes.{shape}
use Rattle.lengths.specs.Classes.{
  Class,
  on_left,
  on_right,
  inside_over,
  inside_classes,
  left_classes,
  right_classes,
  classes,
}
use Rattle.lengths.specs.inside.Reading.{inside_at, classes_from, side_classes, next_on_side, left_edge_classes}
use Rattle.lengths.specs.inside.Reading.{shape_classes}

-- Behind an interior subtree comes the caret whose left subtree it ends: of the side, where no other is open.
abbrev pub closing : List ℕ → (o l : ℕ) → List Class
closing s zero l = next_on_side s l
closing s (suc o) l = inside_at (get_or s 0 0) ∷ classes_from s (suc o) l

-- The first byte of a shape tells a leaf from a caret.
pub inside_at_lem : (x : Tree) (s : List ℕ) → inside_at (get_or (shape x ++ s) 0 0) ≡ inside_over x
inside_at_lem leaf s = refl
inside_at_lem (caret l r) s = refl

-- The carets of an interior subtree.
pub classes-inside : (x : Tree) (s : List ℕ) (o l : ℕ)
    → classes_from (shape x ++ s) (suc o) l ≡ inside_classes x ++ closing s o l
unfolding classes_from
classes-inside leaf s zero zero = refl
classes-inside leaf s zero (suc zero) = refl
classes-inside leaf s zero (suc (suc l)) = refl
classes-inside leaf s (suc o) l = refl
classes-inside (caret x y) s o l =
    ap (λ (z : List ℕ). classes_from z (suc (suc o)) l) (append_assoc (shape x) (shape y) s)
    ∙ classes-inside x (shape y ++ s) (suc o) l
    ∙ ap₂ (λ (c : Class) (cs : List Class). inside_classes x ++ (c ∷ cs)) (inside_at_lem y s) (classes-inside y s o l)
    ∙ sym (append_assoc (inside_classes x) (inside_over y ∷ inside_classes y) (closing s o l))

-- The carets of a subtree whose top is on the right side.
pub classes_right : (r : Tree) → classes_from (shape r) 0 0 ≡ right_classes r
unfolding classes_from
classes_right leaf = refl
classes_right (caret x y) =
    classes-inside x (shape y) 0 0 ∙ ap (λ (cs : List Class). inside_classes x ++ (on_right ∷ cs)) (classes_right y)

-- The carets of a subtree whose top is on the left side, and the caret above it.
pub classes_left : (x : Tree) (s : List ℕ) (l : ℕ)
    → left_edge_classes (shape x ++ s) (suc l) ≡ left_classes x ++ (on_left ∷ side_classes s l)
classes_left leaf s l = refl
classes_left (caret x y) s l =
    ap (λ (z : List ℕ). left_edge_classes z (suc (suc l))) (append_assoc (shape x) (shape y) s)
    ∙ classes_left x (shape y ++ s) (suc l)
    ∙ ap (λ (cs : List Class). left_classes x ++ (on_left ∷ cs)) (classes-inside y s 0 (suc l))
    ∙ sym (append_assoc (left_classes x) (on_left ∷ inside_classes y) (on_left ∷ side_classes s l))

-- The carets of a tree.
pub shape-classes : (t : Tree) → shape_classes (shape t) ≡ classes t
shape-classes leaf = refl
shape-classes (caret x y) =
    classes_left x (shape y) 0 ∙ ap (λ (cs : List Class). left_classes x ++ (on_left ∷ cs)) (classes_right y)

-- One class for each caret.
pub inside-length : (x : Tree) → length (inside_classes x) ≡ carets x
inside-length leaf = refl
inside-length (caret l r) =
    omega (arith, length-append (inside_classes l) (inside_over r ∷ inside_classes r), inside-length l, inside-length r)

pub left_length : (x : Tree) → length (left_classes x) ≡ carets x
left_length leaf = refl
left_length (caret l r) =
    omega (arith, length-append (left_classes l) (on_left ∷ inside_classes r), left_length l, inside-length r)

right_length : (x : Tree) → length (right_classes x) ≡ carets x
right_length leaf = refl
right_length (caret l r) =
    omega (arith, length-append (inside_classes l) (on_right ∷ right_classes r), inside-length l, right_length r)

pub classes-length : (t : Tree) → length (classes t) ≡ carets t
classes-length leaf = refl
classes-length (caret l r) =
    omega (arith, length-append (left_classes l) (on_left ∷ right_classes r), left_length l, right_length r)
