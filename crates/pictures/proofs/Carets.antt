-- The text of carets and of leaves, one behind another. Assumes nothing.
use mathlib.Core.Path.{◌≡◌, sym, ap, ap₂, ◌∙◌}
use mathlib.Core.List.{List, [], ◌∷◌, ◌++◌}
use Prim.Native.Nat.{ℕ, suc, ◌+◌, ◌-◌, ◌*◌, ◌≤◌, ◌<◌}
use native.Mathlib.Numerals.{add-one}
use native.Mathlib.Omega.{arith}
use Rattle.numerals.specs.Decimals.{ascii}
use Rattle.lengths.specs.Kinds.{Kind}
use Rattle.pictures.specs.declared.spans.CaretSpan.{CaretSpan}
use Rattle.pictures.specs.Spans.{Span}
use Rattle.pictures.specs.Svg.{caret_numbers, caret_svg, carets_svg, leaf_svg, leaves_svg}
use Rattle.pictures.specs.inside.Tables.{span_in, span_at, table_kind, table_kinds, carets_from}
use Rattle.pictures.proofs.Tables.{spans_next, spans_none, kinds_next}

-- The numbers in the text of a caret, by its row.
pub caret_numbers_lem : (r : CaretSpan)
    → (32 * r.first) ∷ (16 * (r.first + (r.first + r.width))) ∷ (16 * r.width) ∷ (32 * (r.first + r.width))
    ∷ (16 * (r.first + (r.first + r.width))) ∷ (16 * r.width) ∷ [] ≡ caret_numbers (span_in r)
caret_numbers_lem r =
    let f = r.first in
    let w = r.width in
    let e : w ≡ f + w - f = omega arith in
    ap (λ (v : ℕ). (32 * f) ∷ (16 * (f + (f + w))) ∷ (16 * v) ∷ (32 * (f + w)) ∷ (16 * (f + (f + w))) ∷ (16 * v) ∷ []) e

-- The first of the carets from k on.
pub carets_next : (tab : List CaretSpan) (n k : ℕ) → k < n
    → carets_from tab n k ≡ caret_svg (span_at tab k) (table_kind tab n k) ++ carets_from tab n (k + 1)
carets_next tab n k h =
    ap₂ (λ (ss : List Span) (ks : List Kind). carets_svg ss ks) (spans_next tab n k h) (kinds_next tab n k h)

-- Behind the last caret.
pub carets_none : (tab : List CaretSpan) (n k : ℕ) → n ≤ k → carets_from tab n k ≡ ascii "</g>\n"
carets_none tab n k h = ap (λ (ss : List Span). carets_svg ss (table_kinds tab n k)) (spans_none tab n k h)

-- All leaves.
pub leaves_all : (n : ℕ) → leaves_svg 0 (suc n - 0) ≡ leaves_svg 0 (suc n)
leaves_all n = let e : suc n - 0 ≡ suc n = omega arith in ap (leaves_svg 0) e

-- The first of the leaves from k on.
pub leaves_next : (n k : ℕ) → k ≤ n → leaves_svg k (suc n - k) ≡ leaf_svg k ++ leaves_svg (k + 1) (suc n - (k + 1))
leaves_next n k h =
    let e : suc n - k ≡ suc (suc n - (k + 1)) = omega arith in
    ap (leaves_svg k) e ∙ ap (λ (j : ℕ). leaf_svg k ++ leaves_svg j (suc n - (k + 1))) (sym (add-one k))

-- Behind the last leaf.
pub leaves_none : (n k : ℕ) → n < k → leaves_svg k (suc n - k) ≡ ascii "</g>\n"
leaves_none n k h = let e : suc n - k ≡ 0 = omega arith in ap (leaves_svg k) e
