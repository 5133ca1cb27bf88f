-- The cells and the rows of the picture in characters. Assumes nothing.
use mathlib.Core.Path.{◌≡◌, refl, sym, ap, ap₂, ◌∙◌}
use mathlib.Core.List.{List, [], ◌∷◌, ◌++◌}
use Prim.Native.Nat.{ℕ, zero, suc, ◌+◌, ◌-◌, ◌*◌, ◌≤◌, ◌<◌}
use native.Mathlib.Numerals.{add-one}
use native.Mathlib.Omega.{arith}
use borrow.Author.Tests.{eq-eqb, ne_eqb}
use Rattle.numerals.specs.Decimals.{ascii}
use Rattle.pictures.specs.declared.spans.CaretSpan.{CaretSpan}
use Rattle.pictures.specs.Spans.{Span}
use Rattle.pictures.specs.Characters.{space, stroke_of, first_sign, cell_of, cells_from, row_of}
use Rattle.pictures.specs.Characters.{rows_of, number_rows}
use Rattle.pictures.specs.inside.Tables.{span_at, spans_at}
use Rattle.pictures.proofs.Tables.{spans_next}

-- What the carets from k on show, by what caret k shows.
module _ (tab : List CaretSpan) (n k h c : ℕ) where
  cell_next : (x : ℕ) → k < n → x ≡ stroke_of (span_at tab k) h c
      → cell_of (spans_at tab k (n - k)) h c ≡ first_sign x (cell_of (spans_at tab (k + 1) (n - (k + 1))) h c)
  cell_next x below e =
      ap (λ (ss : List Span). cell_of ss h c) (spans_next tab n k below)
      ∙ ap (λ (y : ℕ). first_sign y (cell_of (spans_at tab (k + 1) (n - (k + 1))) h c)) (sym e)

  pub cell_here : (x : ℕ) → k < n → x ≡ stroke_of (span_at tab k) h c → (x ≡ space → ⊥)
      → cell_of (spans_at tab k (n - k)) h c ≡ x
  cell_here x below e some = cell_next x below e ∙ simp (ne_eqb x space some)

  pub cell_later : (x : ℕ) → k < n → x ≡ stroke_of (span_at tab k) h c → x ≡ space
      → cell_of (spans_at tab k (n - k)) h c ≡ cell_of (spans_at tab (k + 1) (n - (k + 1))) h c
  cell_later x below e none = cell_next x below e ∙ simp (eq-eqb x space none)

-- The first of the cells from column c on.
pub cells_next : (ss : List Span) (n h c : ℕ) → c + h ≤ 2 * n
    → cells_from ss h c (2 * n + 1 - (c + h)) ≡ (cell_of ss h c ∷ []) ++ cells_from ss h (c + 1) (2 * n + 1 - (c + 1 + h))
cells_next ss n h c below =
    let e : 2 * n + 1 - (c + h) ≡ suc (2 * n + 1 - (c + 1 + h)) = omega arith in
    ap (cells_from ss h c) e
    ∙ ap (λ (j : ℕ). cell_of ss h c ∷ cells_from ss h j (2 * n + 1 - (c + 1 + h))) (sym (add-one c))

-- Behind the last cell.
pub cells_none : (ss : List Span) (n h c : ℕ) → 2 * n < c + h → cells_from ss h c (2 * n + 1 - (c + h)) ≡ ascii "\n"
cells_none ss n h c above =
    let e : 2 * n + 1 - (c + h) ≡ 0 = omega arith in ap (cells_from ss h c) e

-- All cells of a row.
pub cells_all : (ss : List Span) (n h : ℕ) → cells_from ss h 0 (2 * n + 1 - (0 + h)) ≡ row_of ss n h
cells_all ss n h =
    let e : 2 * n + 1 - (0 + h) ≡ 2 * n + 1 - h = omega arith in ap (cells_from ss h 0) e

-- The first of the rows from h down.
pub rows_next : (ss : List Span) (n h : ℕ) → 0 < h → rows_of ss n h ≡ row_of ss n (h - 1 + 1) ++ rows_of ss n (h - 1)
rows_next ss n zero some = absurd (omega (arith, some))
rows_next ss n (suc h) some =
    let e : h ≡ suc h - 1 = omega arith in
    let f : suc h ≡ suc h - 1 + 1 = omega arith in
    ap₂ (λ (i j : ℕ). row_of ss n i ++ rows_of ss n j) f e

-- Below the last row.
pub rows_none : (ss : List Span) (n h : ℕ) → h ≤ 0 → rows_of ss n h ≡ number_rows n
rows_none ss n zero low = refl
rows_none ss n (suc h) low = absurd (omega (arith, low))
