-- The spans of carets in a table: for each caret its first leaf and its width.
--     table_rows ss        the rows of spans              spans_at tab k m     m spans, from row k on
--     classes_by n k ss    the classes of spans of a tree with n carets, the first that of caret k
--     kinds_at k cs        the kinds of classes, the first that of caret k
--     table_spans, table_kinds, table_kind       the spans and the kinds of a table with n carets
--     table_svg, table_characters               the texts of a tree, by a table
--     SpansRead           the spans of a subtree were read into a table
-- Inside: no claim reaches these definitions; a reader of the claims need not believe them. Assumes nothing.
use Rattle.std.specs.Prelude.{◌≡◌, cond, List, [], ◌∷◌, ◌++◌, ℕ, zero, suc, ◌+◌, ◌-◌, ◌*◌, ◌≤◌, ◌<◌, eqb, length}
use Rattle.std.specs.Prelude.{slice_index_or, drop}
use Rattle.std.proofs.lemmas.List.Edits.{sets}
use Rattle.trees.specs.Trees.{Tree, carets}
use Rattle.trees.specs.Shapes.{shape}
use Rattle.lengths.specs.Classes.{Class, on_left, on_right, inside_leaf, inside_caret}
use Rattle.lengths.specs.Kinds.{Kind, L0, kind_of, next_inside, some_inside_value, later_kinds}
use Rattle.pictures.specs.declared.spans.CaretSpan.{CaretSpan}
use Rattle.pictures.specs.Spans.{Span, span, width, spans_from, spans, drawn}
use Rattle.pictures.specs.Svg.{carets_svg, caret_group, spans_svg}
use Rattle.pictures.specs.Characters.{spans_characters}

-- A span as a table holds it, and the spans of a table.
abbrev pub row_of_span : Span → CaretSpan
row_of_span s = record { first = s.first; width = width s }

abbrev pub table_rows : List Span → List CaretSpan
table_rows [] = []
table_rows (s ∷ ss) = row_of_span s ∷ table_rows ss

-- The span that is held, that of row k, and those of m rows from row k on.
abbrev pub span_in : CaretSpan → Span
span_in r = span r.first (r.first + r.width)

abbrev pub span_at : List CaretSpan → ℕ → Span
span_at tab k = span_in (slice_index_or tab k (record { first = 0; width = 0 }))

abbrev pub spans_at : List CaretSpan → (k m : ℕ) → List Span
spans_at tab k zero = []
spans_at tab k (suc m) = span_at tab k ∷ spans_at tab (suc k) m

-- The class of caret k of n by its span.
abbrev pub class_by : (n k : ℕ) → Span → Class
class_by n k s =
    cond (eqb s.first 0) on_left
    (cond (eqb s.last n) on_right (cond (eqb s.last (k + 1)) inside_leaf inside_caret))

abbrev pub classes_by : (n k : ℕ) → List Span → List Class
classes_by n k [] = []
classes_by n k (s ∷ ss) = class_by n k s ∷ classes_by n (suc k) ss

-- The classes of the carets from k on, by a table.
abbrev pub classes_at : List CaretSpan → (n k : ℕ) → List Class
classes_at tab n k = classes_by n k (spans_at tab k (n - k))

-- The kind of caret k, by its class and the classes behind it.
abbrev pub kind_at : (k : ℕ) → Class → List Class → Kind
kind_at zero c cs = L0
kind_at (suc k) c cs = kind_of c (next_inside cs) (some_inside_value cs)

-- The kinds of the carets from k on.
abbrev pub kinds_at : (k : ℕ) → List Class → List Kind
kinds_at k [] = []
kinds_at k (c ∷ cs) = kind_at k c cs ∷ later_kinds cs

-- The spans of a table with n carets, their kinds from caret k on, and the kind of caret k.
abbrev pub table_spans : List CaretSpan → ℕ → List Span
table_spans tab n = spans_at tab 0 (n - 0)

abbrev pub table_kinds : List CaretSpan → (n k : ℕ) → List Kind
table_kinds tab n k = kinds_at k (classes_at tab n k)

abbrev pub table_kind : List CaretSpan → (n k : ℕ) → Kind
table_kind tab n k = kind_at k (class_by n k (span_at tab k)) (classes_at tab n (k + 1))

-- A node of bytes that are not too many, with no more leaves in front of it than nodes.
pub record Readable (bytes : List ℕ) (at first : ℕ) : Type 0 where
  pub behind : first ≤ at
  pub inside : at ≤ length bytes
  pub short : length bytes ≤ 2 * drawn + 1

-- The subtree of a node was read, and its spans are written; the answer is the place behind it.
pub record SpansRead (bytes : List ℕ) (at first : ℕ) (entry exit : List CaretSpan) (r : ℕ) : Type 0 where
  pub on : at ≤ r
  pub within : r ≤ length bytes
  pub moves : at < length bytes → at < r
  pub holds : (t : Tree) (rest : List ℕ) → drop at bytes ≡ shape t ++ rest → first + carets t ≤ drawn
      → (r ≡ at + (2 * carets t + 1)) × (exit ≡ sets entry first (table_rows (spans_from first t)))

-- The spans of the tree with n carets whose shape was read.
pub record SpansOf (bytes : List ℕ) (n : ℕ) (table : List CaretSpan) (count : ℕ) : Type 0 where
  pub same : count ≡ n
  pub holds : (t : Tree) → bytes ≡ shape t → carets t ≡ n → table_spans table n ≡ spans t

-- A place of the picture in characters.
pub record Cell (n h c : ℕ) : Type 0 where
  pub row : h ≤ n
  pub column : c ≤ 2 * n

-- The text of the carets from k on, by a table, and of all, moved to the right by x.
abbrev pub carets_from : List CaretSpan → (n k : ℕ) → List ℕ
carets_from tab n k = carets_svg (spans_at tab k (n - k)) (table_kinds tab n k)

abbrev pub table_group : List CaretSpan → (x n : ℕ) → List ℕ
table_group tab x n = caret_group x (table_spans tab n) (table_kinds tab n 0)

-- The texts of a tree, by a table.
abbrev pub table_svg : List CaretSpan → (x n : ℕ) → (name : List ℕ) → List ℕ
table_svg tab x n name = spans_svg x n (table_spans tab n) (table_kinds tab n 0) name

abbrev pub table_characters : List CaretSpan → (n : ℕ) → (head : List ℕ) → List ℕ
table_characters tab n head = spans_characters n (table_spans tab n) (table_kinds tab n 0) head
