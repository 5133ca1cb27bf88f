-- The line with the kinds of the carets. Assumes nothing.
use mathlib.Core.Path.{◌≡◌, ap}
use mathlib.Core.List.{List, ◌∷◌, ◌++◌}
use Prim.Native.Nat.{ℕ, ◌+◌, ◌≤◌, ◌<◌}
use Rattle.numerals.specs.Decimals.{ascii}
use Rattle.pictures.specs.declared.spans.CaretSpan.{CaretSpan}
use Rattle.pictures.specs.Texts.{kind_name}
use Rattle.pictures.specs.Characters.{space, later_line, kinds_line}
use Rattle.pictures.specs.inside.Tables.{table_kind, table_kinds}
use Rattle.pictures.proofs.Tables.{kinds_next, kinds_none}

module _ (tab : List CaretSpan) (n : ℕ) where
  -- The first kind, and no kind.
  pub line_first : 0 < n
      → kinds_line (table_kinds tab n 0) ≡ kind_name (table_kind tab n 0) ++ later_line (table_kinds tab n 1)
  line_first h = ap kinds_line (kinds_next tab n 0 h)

  -- A later kind, and the end of the line.
  pub later_next : (k : ℕ) → k < n
      → later_line (table_kinds tab n k) ≡ (space ∷ kind_name (table_kind tab n k)) ++ later_line (table_kinds tab n (k + 1))
  later_next k h = ap later_line (kinds_next tab n k h)

  pub later_none : (k : ℕ) → n ≤ k → later_line (table_kinds tab n k) ≡ ascii "\n"
  later_none k h = ap later_line (kinds_none tab n k h)
