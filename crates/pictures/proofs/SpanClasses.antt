-- The classes of the carets of a tree, by their spans. Assumes nothing.
use mathlib.Core.Path.{◌≡◌, refl, ap, ap₂, ◌∙◌}
use mathlib.Core.List.{List, [], ◌∷◌, ◌++◌}
use Prim.Native.Nat.{ℕ, suc, ◌+◌, ◌<◌}
use native.Mathlib.Omega.{arith}
use lib.ListN.{length, length-append}
use borrow.Author.Tests.{eq-eqb, ne_eqb}
use Rattle.trees.specs.Trees.{Tree, leaf, caret, carets}
use Rattle.lengths.specs.Classes.{Class, on_left, on_right, inside_leaf, inside_caret, inside_over, inside_classes}
use Rattle.lengths.specs.Classes.{left_classes, right_classes, classes}
use Rattle.lengths.specs.Kinds.{kinds_of, kinds}
use Rattle.pictures.specs.Spans.{Span, span, spans_from, spans}
use Rattle.pictures.specs.inside.Tables.{class_by, classes_by, kinds_at}
use Rattle.pictures.proofs.Tables.{Ordered}

-- As many spans as carets.
pub spans-length : (i : ℕ) (t : Tree) → length (spans_from i t) ≡ carets t
spans-length i leaf = refl
spans-length i (caret l r) =
    let own = span i (i + suc (carets l + carets r)) in
    length-append (spans_from i l) (own ∷ spans_from (suc (i + carets l)) r)
    ∙ ap₂ (λ (m n : ℕ). m + suc n) (spans-length i l) (spans-length (suc (i + carets l)) r)

-- Their leaves are in order.
ordered_append : (a b : List Span) → Ordered a → Ordered b → Ordered (a ++ b)
ordered_append [] b o p = p
ordered_append (s ∷ a) b o p = (o.0, ordered_append a b o.1 p)

pub spans_ordered : (i : ℕ) (t : Tree) → Ordered (spans_from i t)
spans_ordered i leaf = tt
spans_ordered i (caret l r) =
    ordered_append (spans_from i l) _ (spans_ordered i l) (omega arith, spans_ordered (suc (i + carets l)) r)

-- The classes of spans in two parts.
classes-append : (n k : ℕ) (a b : List Span) → classes_by n k (a ++ b) ≡ classes_by n k a ++ classes_by n (k + length a) b
classes-append n k [] b = let e : k ≡ k + 0 = omega arith in ap (λ (j : ℕ). classes_by n j b) e
classes-append n k (s ∷ a) b =
    let e : suc k + length a ≡ k + suc (length a) = omega arith in
    ap (λ (cs : List Class). class_by n k s ∷ cs)
    (classes-append n (suc k) a b ∙ ap (λ (j : ℕ). classes_by n (suc k) a ++ classes_by n j b) e)

-- The classes below a caret, by those of its subtrees and its own.
module _ (n i : ℕ) (l r : Tree) where
  classes_caret : {a b : List Class} {c : Class} → classes_by n i (spans_from i l) ≡ a
      → class_by n (i + carets l) (span i (i + suc (carets l + carets r))) ≡ c
      → classes_by n (suc (i + carets l)) (spans_from (suc (i + carets l)) r) ≡ b
      → classes_by n i (spans_from i (caret l r)) ≡ a ++ (c ∷ b)
  classes_caret {a} {b} {c} left mid right =
      let rest = span i (i + suc (carets l + carets r)) ∷ spans_from (suc (i + carets l)) r in
      classes-append n i (spans_from i l) rest
      ∙ ap (λ (j : ℕ). classes_by n i (spans_from i l) ++ classes_by n (i + j) rest) (spans-length i l)
      ∙ ap₂ (◌++◌) left (ap₂ (λ (x : Class) (xs : List Class). x ∷ xs) mid right)

-- The class of a caret by its span: on the left side, on the right side, and interior over a leaf or a caret.
pub class_left : (n k : ℕ) (s : Span) → s.first ≡ 0 → class_by n k s ≡ on_left
class_left n k s h = simp (eq-eqb s.first 0 h)

pub class_right : (n k : ℕ) (s : Span) → (s.first ≡ 0 → ⊥) → s.last ≡ n → class_by n k s ≡ on_right
class_right n k s h e = simp (ne_eqb s.first 0 h, eq-eqb s.last n e)

pub class_leaf : (n k : ℕ) (s : Span) → (s.first ≡ 0 → ⊥) → (s.last ≡ n → ⊥) → s.last ≡ k + 1
    → class_by n k s ≡ inside_leaf
class_leaf n k s h e f = simp (ne_eqb s.first 0 h, ne_eqb s.last n e, eq-eqb s.last (k + 1) f)

pub class_caret : (n k : ℕ) (s : Span) → (s.first ≡ 0 → ⊥) → (s.last ≡ n → ⊥) → (s.last ≡ k + 1 → ⊥)
    → class_by n k s ≡ inside_caret
class_caret n k s h e f = simp (ne_eqb s.first 0 h, ne_eqb s.last n e, ne_eqb s.last (k + 1) f)

class_inside : (n i : ℕ) (l r : Tree) → 0 < i → i + suc (carets l + carets r) < n
    → class_by n (i + carets l) (span i (i + suc (carets l + carets r))) ≡ inside_over r
class_inside n i l leaf h below =
    class_leaf n (i + carets l) (span i (i + suc (carets l + carets leaf))) (λ z. omega (arith, h, z))
    (λ z. omega (arith, below, z)) (omega arith)
class_inside n i l (caret x y) h below =
    class_caret n (i + carets l) (span i (i + suc (carets l + carets (caret x y)))) (λ z. omega (arith, h, z))
    (λ z. omega (arith, below, z)) (λ z. omega (arith, z))

-- The carets of an interior subtree, of one on the left side and of one on the right side.
inside-classes : (n i : ℕ) (t : Tree) → 0 < i → i + carets t < n → classes_by n i (spans_from i t) ≡ inside_classes t
inside-classes n i leaf h below = refl
inside-classes n i (caret l r) h below =
    classes_caret n i l r (inside-classes n i l h (omega (arith, below)))
    (class_inside n i l r h (omega (arith, below)))
    (inside-classes n (suc (i + carets l)) r (omega arith) (omega (arith, below)))

left_classes_lem : (n : ℕ) (t : Tree) → carets t < n → classes_by n 0 (spans_from 0 t) ≡ left_classes t
left_classes_lem n leaf below = refl
left_classes_lem n (caret l r) below =
    classes_caret n 0 l r (left_classes_lem n l (omega (arith, below)))
    (class_left n (0 + carets l) (span 0 (0 + suc (carets l + carets r))) refl)
    (inside-classes n (suc (0 + carets l)) r (omega arith) (omega (arith, below)))

right_classes_lem : (n i : ℕ) (t : Tree) → 0 < i → i + carets t ≡ n → classes_by n i (spans_from i t) ≡ right_classes t
right_classes_lem n i leaf h e = refl
right_classes_lem n i (caret l r) h e =
    classes_caret n i l r (inside-classes n i l h (omega (arith, e)))
    (class_right n (i + carets l) (span i (i + suc (carets l + carets r))) (λ z. omega (arith, h, z))
    (omega (arith, e)))
    (right_classes_lem n (suc (i + carets l)) r (omega arith) (omega (arith, e)))

-- The classes of the carets of a tree are those of its spans.
pub span-classes : (t : Tree) → classes_by (carets t) 0 (spans t) ≡ classes t
span-classes leaf = refl
span-classes (caret l r) =
    classes_caret (carets (caret l r)) 0 l r (left_classes_lem (carets (caret l r)) l (omega arith))
    (class_left (carets (caret l r)) (0 + carets l) (span 0 (0 + suc (carets l + carets r))) refl)
    (right_classes_lem (carets (caret l r)) (suc (0 + carets l)) r (omega arith) (omega arith))

-- And so are the kinds.
kinds_at_lem : (cs : List Class) → kinds_at 0 cs ≡ kinds_of cs
kinds_at_lem [] = refl
kinds_at_lem (c ∷ cs) = refl

pub span-kinds : (t : Tree) → kinds_at 0 (classes_by (carets t) 0 (spans t)) ≡ kinds t
span-kinds t = ap (kinds_at 0) (span-classes t) ∙ kinds_at_lem (classes t)
