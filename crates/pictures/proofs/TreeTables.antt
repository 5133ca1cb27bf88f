-- The table of a tree's spans gives the text of the tree. Assumes nothing.
use mathlib.Core.Path.{◌≡◌, sym, ap, ap₂, ◌∙◌}
use mathlib.Core.List.{List, [], append-nil}
use Prim.Native.Nat.{ℕ, ◌+◌, ◌-◌, ◌≤◌}
use native.Mathlib.Omega.{arith}
use lib.ListN.{length, drop}
use lib.Seq.{sets-eq}
use Rattle.trees.specs.Trees.{Tree, carets}
use Rattle.trees.specs.Shapes.{shape}
use Rattle.lengths.specs.Kinds.{Kind, kinds}
use Rattle.pictures.specs.declared.spans.CaretSpan.{CaretSpan}
use Rattle.pictures.specs.Spans.{Span, spans, drawn}
use Rattle.pictures.specs.Svg.{spans_svg, tree_svg}
use Rattle.pictures.specs.Characters.{spans_characters, tree_characters}
use Rattle.pictures.specs.inside.Tables.{table_rows, spans_at, table_spans, table_kinds, classes_by, kinds_at}
use Rattle.pictures.specs.inside.Tables.{SpansRead, SpansOf, table_svg}
use Rattle.pictures.specs.inside.Tables.{table_characters}
use Rattle.pictures.proofs.Tables.{spans_read}
use Rattle.pictures.proofs.SpanClasses.{spans-length, spans_ordered, span-kinds}
use Rattle.pictures.proofs.Reading.{rows_length}

-- The spans of the tree stand in the table that was read.
pub table-spans : {bytes : List ℕ} {entry exit : List CaretSpan} {r n : ℕ} (t : Tree) → SpansRead bytes 0 0 entry exit r
    → length entry ≡ drawn → bytes ≡ shape t → carets t ≡ n → n ≤ drawn → table_spans exit n ≡ spans t
table-spans {bytes} {entry} {exit} {r} {n} t read room e count few =
    let wrote = (read.holds t [] (e ∙ sym (append-nil (shape t))) (omega (arith, count, few))).1 in
    let rows = table_rows (spans t) in
    let size = spans-length 0 t in
    let all : n - 0 ≡ length (spans t) = omega (arith, size, count) in
    let front = wrote
    ∙ sets-eq rows entry 0 (omega (arith, rows_length (spans t), size, count, few, room)) in
    ap (spans_at exit 0) all
    ∙ spans_read exit 0 (spans t) (drop (0 + length rows) entry) (spans_ordered 0 t) front

-- They give the text of the tree.
module _ {bytes : List ℕ} {n : ℕ} {tab : List CaretSpan} {m : ℕ} (o : SpansOf bytes n tab m) (t : Tree)
    (e : bytes ≡ shape t)
    (count : carets t ≡ n) where
  same : m ≡ carets t
  same = o.same ∙ sym count

  own_spans : table_spans tab m ≡ spans t
  own_spans = ap (table_spans tab) o.same ∙ o.holds t e count

  own_kinds : table_kinds tab m 0 ≡ kinds t
  own_kinds = ap₂ (λ (k : ℕ) (ss : List Span). kinds_at 0 (classes_by k 0 ss)) same own_spans ∙ span-kinds t

  pub table_svg_lem : (x : ℕ) (name : List ℕ) → table_svg tab x m name ≡ tree_svg x t name
  table_svg_lem x name =
      ap₂ (λ (ss : List Span) (ks : List Kind). spans_svg x m ss ks name) own_spans own_kinds
      ∙ ap (λ (k : ℕ). spans_svg x k (spans t) (kinds t) name) same

  -- The text in characters, too.
  pub table_characters_lem : (head : List ℕ) → table_characters tab m head ≡ tree_characters t head
  table_characters_lem head =
      ap₂ (λ (ss : List Span) (ks : List Kind). spans_characters m ss ks head) own_spans own_kinds
      ∙ ap (λ (k : ℕ). spans_characters k (spans t) (kinds t) head) same
