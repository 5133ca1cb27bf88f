-- The length of a form within a limit is at most five times the limit (02, [2] and [8]): a caret weighs at most 2 with
-- one of the other tree and 1 more for each of the two that is interior, and a tree has no more interior carets than
-- its exponents sum to.
--     interiors cs     how many of the classes are interior          interior-total   those of a tree
--     form_most        at most 5 · l, at every limit l
-- Assumes nothing.
use mathlib.Core.Path.{◌≡◌}
use mathlib.Core.List.{List, [], ◌∷◌, ◌++◌}
use Prim.Native.Nat.{ℕ, suc, ◌+◌, ◌*◌, ◌≤◌}
use native.Mathlib.Omega.{arith}
use lib.ListN.{length}
use Rattle.lists.specs.Entries.{total}
use Rattle.lists.proofs.Totals.{total_same}
use Rattle.group.specs.Forms.{b_side, a_side, Form, exponents, levels, exponent_sum}
use Rattle.trees.specs.Trees.{Tree, leaf, caret, carets}
use Rattle.trees.specs.Building.{needed, tree_of}
use Rattle.trees.specs.Pairs.{carets_of, minus_tree, plus_tree}
use Rattle.trees.specs.Readings.{exponents_of}
use Rattle.trees.proofs.Rows.{right_carets, total-exponents}
use Rattle.trees.proofs.Built.{tree_exponents}
use Rattle.trees.proofs.Pairs.{a_needed, b_needed, pair_carets, sides_total, carets-limit}
use Rattle.lengths.specs.Classes.{Class, on_left, on_right, inside_classes, left_classes, right_classes, classes}
use Rattle.lengths.specs.Kinds.{next_inside, some_inside_value, kinds_of}
use Rattle.lengths.specs.Weights.{weights, form_length}
use Rattle.lengths.proofs.Weights.{interior, interior_most, weight_interior}
use Rattle.lengths.proofs.ShapeClasses.{inside-length, left_length, classes-length}
use Rattle.lengths.proofs.PairBounds.{weights_of}

-- How many of the classes are those of interior carets.
abbrev interiors : List Class → ℕ
interiors [] = 0
interiors (c ∷ cs) = interior c + interiors cs

interiors_append : (cs ds : List Class) → interiors (cs ++ ds) ≡ interiors cs + interiors ds
interiors_append [] ds = omega arith
interiors_append (c ∷ cs) ds = omega (arith, interiors_append cs ds)

interiors_most : (cs : List Class) → interiors cs ≤ length cs
interiors_most [] = omega arith
interiors_most (c ∷ cs) = omega (arith, interior_most c, interiors_most cs)

-- Two for each caret behind caret 0, and one for each that is interior.
later_interiors : (cs ds : List Class) → weights_of cs ds ≤ 2 * length cs + (interiors cs + interiors ds)
later_interiors [] ds = omega arith
later_interiors (c ∷ cs) [] = omega arith
later_interiors (c ∷ cs) (d ∷ ds) =
    omega (
      arith,
      weight_interior c d (next_inside cs) (some_inside_value cs) (next_inside ds) (some_inside_value ds),
      later_interiors cs ds,
    )

-- The root and the carets of the right side are not interior, and every other caret is counted by one exponent.
right_interiors : (t : Tree) → right_carets t + interiors (right_classes t) ≤ carets t
right_interiors leaf = omega arith
right_interiors (caret l r) =
    omega (
      arith,
      interiors_append (inside_classes l) (on_right ∷ right_classes r),
      interiors_most (inside_classes l),
      inside-length l,
      right_interiors r,
    )

interior_total : (t : Tree) → interiors (classes t) ≤ total (exponents_of t)
interior_total leaf = omega arith
interior_total (caret l r) =
    omega (
      arith,
      interiors_append (left_classes l) (on_left ∷ right_classes r),
      interiors_most (left_classes l),
      left_length l,
      right_interiors r,
      total-exponents (caret l r),
    )

-- The tree with given exponents.
tree_interiors : (n : ℕ) (es : List ℕ) → needed 0 es ≤ n → interiors (classes (tree_of n es)) ≤ total es
tree_interiors n es h =
    omega (arith, interior_total (tree_of n es), total_same (exponents_of (tree_of n es)) es (tree_exponents n es h))

-- Two for each caret but caret 0, and the exponents of both sides.
pub form_weighs : (n : ℕ) (f : Form) → carets_of f ≤ suc n → form_length f ≤ 2 * n + exponent_sum f
form_weighs n f few =
    let minus = tree_interiors (carets_of f) (exponents a_side f) (a_needed f) in
    let plus = tree_interiors (carets_of f) (exponents b_side f) (b_needed f) in
    omega (
      arith,
      go (classes (minus_tree f)) (classes (plus_tree f))
          (omega (arith, classes-length (minus_tree f), (pair_carets f).0)),
      minus,
      plus,
      sides_total f,
    )
  where
    go : (cs ds : List Class) → length cs ≤ suc n
        → weights (kinds_of cs) (kinds_of ds) ≤ 2 * n + (interiors cs + interiors ds)
    go [] ds h = omega arith
    go (c ∷ cs) [] h = omega arith
    go (c ∷ cs) (d ∷ ds) h = omega (arith, later_interiors cs ds)

-- Within a limit, whatever it is.
pub form_most : (l : ℕ) (f : Form) → levels f ≤ suc l → exponent_sum f ≤ l → form_length f ≤ 5 * l
form_most l f h k =
    omega (arith, form_weighs (2 * l) f (omega (arith, carets-limit l f h k)))
