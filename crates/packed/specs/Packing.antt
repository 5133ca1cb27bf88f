-- Packed shapes, with a summary (02, [6]): a shape 64 nodes to a number, and beside it, for each number, the carets in
-- all numbers before it.
--     carets_before_value s k  the carets before node k: among the nodes with smaller numbers
--     numbers_for s, summary_for s  the numbers of a shape, and its summary
--     Packs s xs ys        the numbers xs and the summary ys begin with those of the shape s
--     tree_shape_lem s     the bytes s, or 15 where they are no tree within the bound
--     shape_in xs          the nodes that the numbers xs begin with, up to where the tree closes
--     packed_shape xs ys   the byte shape of a packed one, or 15
-- Assumes nothing.
use Rattle.std.specs.Prelude.{◌≡◌, Bool, false, cond, List, ℕ, ◌*◌, length, take, ltb}
use Rattle.lists.specs.Entries.{total}
use Rattle.lists.specs.Tables.{values}
use Rattle.lists.specs.SameBytes.{same_bytes}
use Rattle.refusals.specs.Outcomes.{Outcome, accepted, refused, then}
use Rattle.trees.specs.Pairs.{max_carets}
use Rattle.trees.specs.Shapes.{shape_size, span}
use Rattle.bitrows.specs.Numbers.{number_at, numbers_of_value, nodes_in}
use Rattle.bitrows.specs.Closing.{closes}

-- The carets before node k: those among the nodes 0 to k − 1.
abbrev pub carets_before_value : List ℕ → ℕ → ℕ
carets_before_value s k = total (take k s)

-- The carets in all numbers before number j.
abbrev pub summary_at : List ℕ → ℕ → ℕ
summary_at s j = carets_before_value s (64 * j)

-- The numbers of a shape.
abbrev pub numbers_for : List ℕ → List ℕ
numbers_for s = values (numbers_of_value (length s)) (number_at s)

-- The summary of a shape, an entry for each number.
abbrev pub summary_for : List ℕ → List ℕ
summary_for s = values (numbers_of_value (length s)) (summary_at s)

-- The numbers and the summary begin with those of a shape; what is behind them means nothing.
pub record Packs (s numbers summary : List ℕ) : Type 0 where
  pub holds_numbers : take (numbers_of_value (length s)) numbers ≡ numbers_for s
  pub holds_summary : take (numbers_of_value (length s)) summary ≡ summary_for s

-- The same as a test.
abbrev pub packs : (s numbers summary : List ℕ) → Bool
packs s numbers summary =
    cond (same_bytes (take (numbers_of_value (length s)) numbers) (numbers_for s))
    (same_bytes (take (numbers_of_value (length s)) summary) (summary_for s)) false

-- The shape of a tree with at most max_carets carets, or refusal 15.
abbrev pub tree_shape : List ℕ → Outcome (List ℕ)
tree_shape s =
    cond (closes s 1) (cond (ltb (shape_size max_carets) (length s)) (refused 15 0) (accepted s)) (refused 15 0)

-- The nodes in the numbers up to where the tree closes, or all of them where it does not.
abbrev pub shape_in : List ℕ → List ℕ
shape_in numbers = take (span (nodes_in numbers) 1) (nodes_in numbers)

-- The byte shape of a packed one: the bits are those of a tree, unused bits are zero, and the summary is right.
abbrev pub packed_shape : (numbers summary : List ℕ) → Outcome (List ℕ)
packed_shape numbers summary =
    then (tree_shape (shape_in numbers)) (λ s. cond (packs s numbers summary) (accepted s) (refused 15 0))
