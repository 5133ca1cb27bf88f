-- The leaves below each caret of a tree (01, 'The tree pair and the length': leaves and carets are numbered from 0 and
-- from the left, and caret k is the one between the leaves k and k + 1).
--     Span              the first and the last leaf below a caret
--     spans_from i t     the spans of the carets, from left to right, where the first leaf has the number i
--     drawn             the most carets of a tree that is drawn
-- Assumes nothing.
use Rattle.std.specs.Prelude.{List, [], ◌∷◌, ◌++◌, ℕ, suc, ◌+◌, ◌-◌}
use Rattle.trees.specs.Trees.{Tree, leaf, caret, carets}

-- The first and the last leaf below a caret.
pub record Span : Type 0 where
  pub first : ℕ
  pub last : ℕ

abbrev pub span : (first last : ℕ) → Span
span i j = record { first = i; last = j }

-- The number of steps from the first leaf to the last.
abbrev pub width : Span → ℕ
width s = s.last - s.first

-- The carets of the left subtree, the caret itself, those of the right subtree: entry k is caret k.
abbrev pub spans_from : ℕ → Tree → List Span
spans_from i leaf = []
spans_from i (caret l r) =
    spans_from i l ++ (span i (i + suc (carets l + carets r)) ∷ spans_from (suc (i + carets l)) r)

-- The spans of the carets of a whole tree.
abbrev pub spans : Tree → List Span
spans t = spans_from 0 t

-- Trees with more carets are not drawn.
abbrev pub drawn : ℕ
drawn = 300
