-- The carets and the length of a word of n letters: at most 2n + 1 and, with at most 4 for each caret, 8n + 4.
-- Assumes nothing.
use mathlib.Core.List.{List, [], ◌∷◌}
use Prim.Native.Nat.{◌+◌, ◌*◌, ◌≤◌}
use native.Mathlib.Omega.{arith}
use lib.ListN.{length}
use Rattle.group.specs.Letters.{Word}
use Rattle.group.specs.Forms.{a_side, Form, exponents}
use Rattle.group.specs.Products.{form_of}
use Rattle.group.proofs.Sizes.{form_sum, form_levels}
use Rattle.trees.specs.Pairs.{carets_of, minus_tree, plus_tree}
use Rattle.trees.proofs.Built.{tree_carets}
use Rattle.trees.proofs.Pairs.{carets-limit}
use Rattle.lengths.specs.Kinds.{Kind, kinds}
use Rattle.lengths.specs.Weights.{weights, form_length}
use Rattle.lengths.proofs.Weights.{weight-most}
use Rattle.lengths.proofs.CaretKinds.{kinds_numbered}

-- A caret weighs at most 4.
weights-most : (xs ys : List Kind) → weights xs ys ≤ 4 * length xs
weights-most [] ys = omega arith
weights-most (x ∷ xs) [] = omega arith
weights-most (x ∷ xs) (y ∷ ys) = omega (arith, weight-most x y, weights-most xs ys)

-- The length is at most four times the number of carets.
pub length_most : (f : Form) → form_length f ≤ 4 * carets_of f
length_most f =
    omega (
      arith,
      weights-most (kinds (minus_tree f)) (kinds (plus_tree f)),
      kinds_numbered (minus_tree f),
      tree_carets (carets_of f) (exponents a_side f) (omega arith),
    )

-- The carets of a word.
pub carets-most : (w : Word) → carets_of (form_of w) ≤ 2 * length w + 1
carets-most w = carets-limit (length w) (form_of w) (form_levels w) (form_sum w)
