-- How much the carets of a pair weigh together (01, 'The tree pair and the length'; 02, [2]): caret 0 nothing, the last
-- caret at most 2, since it is on a side, and every other at most 4.
--     last_not_inside   the last caret of a tree is on the left or on the right side
--     later-most        the carets behind caret 0, by their classes
--     pair_most         a pair of n + 2 carets has a length of at most 4 · n + 2
--     pair_narrow       no pair within the limits has one above 8 · limit − 2
-- Assumes nothing.
use mathlib.Core.Path.{◌≡◌, refl, ◌∙◌}
use mathlib.Core.Bool.{false}
use mathlib.Core.List.{List, [], ◌∷◌, ◌++◌}
use Prim.Native.Nat.{ℕ, zero, suc, ◌+◌, ◌*◌, ◌≤◌}
use native.Mathlib.Omega.{arith}
use lib.ListN.{length}
use Rattle.group.specs.Limits.{limit}
use Rattle.trees.specs.Trees.{Tree, leaf, caret, carets}
use Rattle.trees.specs.Pairs.{max_carets}
use Rattle.lengths.specs.Classes.{
  Class,
  on_left,
  on_right,
  inside_classes,
  left_classes,
  right_classes,
  classes,
}
use Rattle.lengths.specs.Kinds.{inside, some_inside_value, kind_of, later_kinds, kinds_of}
use Rattle.lengths.specs.Weights.{weights, pair_length}
use Rattle.lengths.specs.inside.Steps.{EndsOutside}
use Rattle.lengths.proofs.Weights.{weight-most, interior_none, weight_interior}
use Rattle.lengths.proofs.ShapeClasses.{classes-length}

-- Classes that end outside do so behind any others.
append-ends : (cs : List Class) (d : Class) (ds : List Class) → EndsOutside (d ∷ ds) → EndsOutside (cs ++ (d ∷ ds))
append-ends [] d ds h = h
append-ends (c ∷ []) d ds h = h
append-ends (c ∷ e ∷ cs) d ds h = append-ends (e ∷ cs) d ds h

-- Behind a caret of a side, its right subtree with its top on the right side.
right_ends : (c : Class) → inside c ≡ false → (t : Tree) → EndsOutside (c ∷ right_classes t)
right_ends c h leaf = h
right_ends c h (caret l r) = append-ends (c ∷ inside_classes l) on_right (right_classes r) (right_ends on_right refl r)

-- The last caret of a tree is reached from the root by right edges only: it is the root, which 01 counts on the left
-- side, or on the right side. (000 says that every tree has an R0; one whose last caret is the root has none.)
pub last_not_inside : (t : Tree) → EndsOutside (classes t)
last_not_inside leaf = tt
last_not_inside (caret l r) = append-ends (left_classes l) on_left (right_classes r) (right_ends on_left refl r)

-- "The sum over k of the weight of caret k of T− with caret k of T+", for carets behind caret 0, by their classes.
abbrev pub weights_of : (cs ds : List Class) → ℕ
weights_of cs ds = weights (later_kinds cs) (later_kinds ds)

-- As many carets of both trees, the last ones not interior: Fordham's table has 4 at most, and 2 where neither is
-- interior.
pub later-most : (c d : Class) (cs ds : List Class) → length cs ≡ length ds → EndsOutside (c ∷ cs)
    → EndsOutside (d ∷ ds) → weights_of (c ∷ cs) (d ∷ ds) ≤ 4 * length cs + 2
later-most c d [] [] e h k =
    omega (arith, weight_interior c d false false false false, interior_none c h, interior_none d k)
later-most c d [] (d' ∷ ds) e h k = absurd (omega arith)
later-most c d (c' ∷ cs) [] e h k = absurd (omega arith)
later-most c d (c' ∷ cs) (d' ∷ ds) e h k =
    omega (
      arith,
      weight-most (kind_of c (inside c') (some_inside_value (c' ∷ cs))) (kind_of d (inside d') (some_inside_value (d' ∷ ds))),
      later-most c' d' cs ds (omega arith) h k,
    )

-- A pair of at least two carets. "L0 meets only L0 and weighs 0", so that n + 1 carets are left, the last among them.
pub pair_most : (n : ℕ) (t s : Tree) → carets t ≡ suc (suc n) → carets s ≡ suc (suc n) → pair_length t s ≤ 4 * n + 2
pair_most n t s ht hs =
    go (classes t) (classes s) (classes-length t ∙ ht) (classes-length s ∙ hs) (last_not_inside t) (last_not_inside s)
  where
    go : (cs ds : List Class) → length cs ≡ suc (suc n) → length ds ≡ suc (suc n) → EndsOutside cs → EndsOutside ds
        → weights (kinds_of cs) (kinds_of ds) ≤ 4 * n + 2
    go (_ ∷ c ∷ cs) (_ ∷ d ∷ ds) hc hd ec ed = omega (arith, later-most c d cs ds (omega arith) ec ed)
    go (_ ∷ c ∷ cs) (_ ∷ []) hc hd ec ed = absurd (omega arith)
    go (_ ∷ c ∷ cs) [] hc hd ec ed = absurd (omega arith)
    go (_ ∷ []) ds hc hd ec ed = absurd (omega arith)
    go [] ds hc hd ec ed = absurd (omega arith)

-- A pair of at most one caret, which is L0.
pub pair_few : (t s : Tree) → carets t ≤ 1 → pair_length t s ≡ 0
pair_few t s h = go (classes t) (classes s) (omega (arith, classes-length t))
  where
    go : (cs ds : List Class) → length cs ≤ 1 → weights (kinds_of cs) (kinds_of ds) ≡ 0
    go [] ds h = refl
    go (c ∷ []) [] h = refl
    go (c ∷ []) (d ∷ ds) h = refl
    go (c ∷ c' ∷ cs) ds h = absurd (omega arith)

-- A pair of any size within the limits.
pub pair_narrow : (t s : Tree) → carets t ≡ carets s → carets t ≤ max_carets → pair_length t s + 2 ≤ 8 * limit
pair_narrow t s same few = go (carets t) refl
  where
    go : (n : ℕ) → carets t ≡ n → pair_length t s + 2 ≤ 8 * limit
    go zero e = omega (arith, pair_few t s (omega arith))
    go (suc zero) e = omega (arith, pair_few t s (omega arith))
    go (suc (suc n)) e = omega (arith, pair_most n t s e (omega arith))
