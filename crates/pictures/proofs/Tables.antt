-- Spans in a table, and the classes and kinds of their carets.
--     spans_next, classes-next, kinds-next   what stands first from caret k on
--     spans_read                             spans are read back from their rows
--     some_any                               whether some caret is interior
-- Assumes nothing.
use mathlib.Core.Path.{◌≡◌, refl, sym, ap, ap₂, ◌∙◌}
use mathlib.Core.List.{List, [], ◌∷◌, ◌++◌}
use Prim.Native.Nat.{ℕ, zero, suc, ◌+◌, ◌-◌, ◌≤◌, ◌<◌}
use native.Mathlib.Omega.{arith}
use native.Mathlib.Numerals.{add-one}
use lib.ListN.{length, drop}
use Rattle.std.specs.Prelude.{slice_index_or}
use Rattle.std.specs.List.{list_any, range_with_len}
use lib.Seq.{get_or-drop, drop-drop}
use Rattle.lengths.specs.Classes.{Class}
use Rattle.lengths.specs.Kinds.{Kind, later_kinds, either}
use Rattle.lengths.specs.Kinds.{next_inside, some_inside_value}
use Rattle.pictures.specs.declared.spans.CaretSpan.{CaretSpan}
use Rattle.pictures.specs.Spans.{Span, span, width}
use Rattle.pictures.specs.inside.Tables.{row_of_span, table_rows, span_in, span_at, spans_at, class_by, classes_by}
use Rattle.pictures.specs.inside.Tables.{classes_at}
use Rattle.pictures.specs.inside.Tables.{kinds_at, table_kind, table_kinds}

-- The first of the spans from k on.
pub spans_next : (tab : List CaretSpan) (n k : ℕ) → k < n
    → spans_at tab k (n - k) ≡ span_at tab k ∷ spans_at tab (k + 1) (n - (k + 1))
spans_next tab n k h =
    let e : n - k ≡ suc (n - (k + 1)) = omega arith in
    ap (spans_at tab k) e ∙ ap (λ (j : ℕ). span_at tab k ∷ spans_at tab j (n - (k + 1))) (sym (add-one k))

-- There are none behind the last.
pub spans_none : (tab : List CaretSpan) (n k : ℕ) → n ≤ k → spans_at tab k (n - k) ≡ []
spans_none tab n k h = let e : n - k ≡ 0 = omega arith in ap (spans_at tab k) e

-- The first of the classes from k on.
pub classes_next : (tab : List CaretSpan) (n k : ℕ) → k < n
    → classes_at tab n k ≡ class_by n k (span_at tab k) ∷ classes_at tab n (k + 1)
classes_next tab n k h =
    ap (classes_by n k) (spans_next tab n k h)
    ∙ ap (λ (j : ℕ). class_by n k (span_at tab k) ∷ classes_by n j (spans_at tab (k + 1) (n - (k + 1)))) (sym (add-one k))

pub classes_none : (tab : List CaretSpan) (n k : ℕ) → n ≤ k → classes_at tab n k ≡ []
classes_none tab n k h = ap (classes_by n k) (spans_none tab n k h)

-- The kinds behind a caret.
kinds_suc : (k : ℕ) (cs : List Class) → kinds_at (suc k) cs ≡ later_kinds cs
kinds_suc k [] = refl
kinds_suc k (c ∷ cs) = refl

pub kinds-later : (k : ℕ) (cs : List Class) → kinds_at (k + 1) cs ≡ later_kinds cs
kinds-later k cs = rw add-one (kinds_suc k cs)

-- All spans have their leaves in order.
abbrev pub Ordered : List Span → Type 0
Ordered [] = Unit {0}
Ordered (s ∷ ss) = (s.first ≤ s.last) × Ordered ss

-- A span is read back from its row.
row_read : (tab : List CaretSpan) (k : ℕ) (s : Span) (rest : List CaretSpan) → s.first ≤ s.last
    → drop k tab ≡ row_of_span s ∷ rest → span_at tab k ≡ s
row_read tab k s rest h e =
    let none : CaretSpan = record { first = 0; width = 0 } in
    let at0 : k + 0 ≡ k = omega arith in
    let row : slice_index_or tab k none ≡ row_of_span s =
    ap (λ (j : ℕ). slice_index_or tab j none) (sym at0) ∙ sym (get_or-drop k tab 0 none)
    ∙ ap (λ (l : List CaretSpan). slice_index_or l 0 none) e in
    let last : s.first + width s ≡ s.last = omega (arith, h) in
    ap span_in row ∙ ap (span s.first) last

-- The spans are read back from a table that holds their rows from row k on.
pub spans_read : (tab : List CaretSpan) (k : ℕ) (ss : List Span) (rest : List CaretSpan) → Ordered ss
    → drop k tab ≡ table_rows ss ++ rest → spans_at tab k (length ss) ≡ ss
spans_read tab k [] rest o e = refl
spans_read tab k (s ∷ ss) rest o e =
    let one : suc k ≡ k + 1 = omega arith in
    let later : drop (suc k) tab ≡ table_rows ss ++ rest =
    ap (λ (j : ℕ). drop j tab) one ∙ sym (drop-drop 1 k tab) ∙ ap (drop 1) e in
    ap₂ (λ (x : Span) (xs : List Span). x ∷ xs) (row_read tab k s (table_rows ss ++ rest) o.0 e)
    (spans_read tab (suc k) ss rest o.1 later)

-- The first of the kinds from k on.
pub kinds_next : (tab : List CaretSpan) (n k : ℕ) → k < n
    → table_kinds tab n k ≡ table_kind tab n k ∷ table_kinds tab n (k + 1)
kinds_next tab n k h =
    ap (kinds_at k) (classes_next tab n k h)
    ∙ ap (λ (ks : List Kind). table_kind tab n k ∷ ks) (sym (kinds-later k (classes_at tab n (k + 1))))

pub kinds_none : (tab : List CaretSpan) (n k : ℕ) → n ≤ k → table_kinds tab n k ≡ []
kinds_none tab n k h = ap (kinds_at k) (classes_none tab n k h)

-- Whether some caret is interior: one of those from k on.
pub some_any : (tab : List CaretSpan) (n m k : ℕ) → n - k ≡ m
    → list_any (λ j. next_inside (classes_at tab n j)) (range_with_len k m) ≡ some_inside_value (classes_at tab n k)
some_any tab n zero k h = sym (ap some_inside_value (classes_none tab n k (omega arith)))
some_any tab n (suc m) k h =
    let next : suc k ≡ k + 1 = omega arith in
    ap₂ either (ap next_inside (classes_next tab n k (omega arith)))
    (some_any tab n m (k + 1) (omega arith))
    ∙ sym (ap some_inside_value (classes_next tab n k (omega arith)))
