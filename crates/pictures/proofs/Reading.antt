-- The reading of the spans of a subtree: no node, a leaf, a caret. Assumes nothing.
use mathlib.Core.Path.{◌≡◌, refl, sym, ap, ap₂, ◌∙◌}
use mathlib.Core.List.{List, [], ◌∷◌, ◌++◌, append_assoc}
use Prim.Native.Nat.{ℕ, suc, ◌+◌, ◌-◌, ◌*◌, ◌/◌, ◌≤◌, ◌<◌}
use native.Mathlib.Omega.{arith}
use lib.ListN.{length, get_or, drop, set, drop_of_length-le}
use lib.Seq.{sets, set_comm, drop-cons, drop-drop, drop_at}
use Rattle.trees.specs.Trees.{Tree, leaf, caret, carets}
use Rattle.trees.specs.Shapes.{shape}
use Rattle.trees.proofs.Shapes.{shape-length}
use Rattle.pictures.specs.declared.spans.CaretSpan.{CaretSpan}
use Rattle.pictures.specs.Spans.{Span, spans_from, drawn}
use Rattle.pictures.proofs.SpanClasses.{spans-length}
use Rattle.pictures.specs.inside.Tables.{row_of_span, table_rows, SpansRead}

-- The rows of spans in two parts, and their number.
rows_append : (a b : List Span) → table_rows (a ++ b) ≡ table_rows a ++ table_rows b
rows_append [] b = refl
rows_append (s ∷ a) b = ap (λ (l : List CaretSpan). row_of_span s ∷ l) (rows_append a b)

pub rows_length : (ss : List Span) → length (table_rows ss) ≡ length ss
rows_length [] = refl
rows_length (s ∷ ss) = ap suc (rows_length ss)

-- A store in front of a run of stores may come before it.
set-sets : (l : List CaretSpan) (i j : ℕ) (x : CaretSpan) (b : List CaretSpan) → i < j
    → set (sets l j b) i x ≡ sets (set l i x) j b
set-sets l i j x [] h = refl
set-sets l i j x (y ∷ b) h =
    set-sets (set l j y) i (suc j) x b (omega (arith, h))
    ∙ ap (λ (m : List CaretSpan). sets m (suc j) b) (set_comm l j i y x (λ e. omega (arith, h, e)))

-- Stores behind others.
sets-two : (a l : List CaretSpan) (i : ℕ) (b : List CaretSpan) → sets (sets l i a) (i + length a) b ≡ sets l i (a ++ b)
sets-two [] l i b = let e : i + 0 ≡ i = omega arith in ap (λ (k : ℕ). sets l k b) e
sets-two (x ∷ a) l i b =
    let e : i + suc (length a) ≡ suc i + length a = omega arith in
    ap (λ (k : ℕ). sets (sets (set l i x) (suc i) a) k b) e ∙ sets-two a (set l i x) (suc i) b

-- The bytes from a node on begin with its own.
node_byte : (bytes rest : List ℕ) (at b : ℕ) → at < length bytes → drop at bytes ≡ b ∷ rest → get_or bytes at 0 ≡ b
node_byte bytes rest at b h e = let p = sym (drop-cons bytes at 0 h) ∙ e in ap (λ (l : List ℕ). get_or l 0 0) p

-- A tree has at least one node.
shape_some : (t : Tree) (rest : List ℕ) → [] ≡ shape t ++ rest → ⊥
shape_some leaf rest e = let z : ◌≡◌ {A = ℕ} 0 1 = cc in omega arith
shape_some (caret l r) rest e = let z : ◌≡◌ {A = ℕ} 0 1 = cc in omega arith

-- Behind the last node.
pub read_none : {bytes : List ℕ} {at first : ℕ} (tab : List CaretSpan) → at ≡ length bytes
    → SpansRead bytes at first tab tab at
read_none {bytes} {at} {first} tab h = record {
  on = omega arith;
  within = omega (arith, h);
  moves = λ k. absurd (omega (arith, h, k));
  holds = λ t rest e few. absurd (shape_some t rest (sym (drop_of_length-le bytes {i = at} (omega (arith, h))) ∙ e));
}

-- A leaf.
pub read_leaf : {bytes : List ℕ} {at first : ℕ} (tab : List CaretSpan) → at < length bytes → get_or bytes at 0 ≡ 0
    → SpansRead bytes at first tab tab (at + 1)
read_leaf {bytes} {at} {first} tab h zero-byte = record {
  on = omega arith;
  within = omega (arith, h);
  moves = λ k. omega arith;
  holds = go;
}
  where
    go : (t : Tree) (rest : List ℕ) → drop at bytes ≡ shape t ++ rest → first + carets t ≤ drawn
        → (at + 1 ≡ at + (2 * carets t + 1)) × (tab ≡ sets tab first (table_rows (spans_from first t)))
    go leaf rest e few = (omega arith, refl)
    go (caret l r) rest e few =
        absurd (omega (arith, zero-byte, node_byte bytes ((shape l ++ shape r) ++ rest) at 1 h e))

-- A caret: its left subtree, its right subtree, its own row.
module _ {bytes : List ℕ} {tab one two end : List CaretSpan} {at first right last : ℕ} (mid : ℕ) (h : at < length bytes)
    (some : get_or bytes at 0 ≡ 0 → ⊥) (place : mid ≡ first + (right - at - 1) / 2)
    (left : SpansRead bytes (at + 1) first tab one right) (other : SpansRead bytes right (mid + 1) one two last)
    (kept : mid < drawn → end ≡ set two mid (record { first = first; width = (last - at) / 2 })) where
  -- The rows of the right subtree, with the caret's own in front.
  own_row : (rows : List CaretSpan) (w : ℕ) → mid < drawn → (last - at) / 2 ≡ w → two ≡ sets one (mid + 1) rows
      → end ≡ sets one mid (record { first = first; width = w } ∷ rows)
  own_row rows w few e wrote =
      let next : mid + 1 ≡ suc mid = omega arith in
      kept few
      ∙ ap₂ (λ (v : ℕ) (s : List CaretSpan). set s mid (record { first = first; width = v })) e
      (wrote ∙ ap (λ (k : ℕ). sets one k rows) next)
      ∙ set-sets one mid (suc mid) (record { first = first; width = w }) rows (omega arith)

  caret_holds : (t : Tree) (rest : List ℕ) → drop at bytes ≡ shape t ++ rest → first + carets t ≤ drawn
      → (last ≡ at + (2 * carets t + 1)) × (end ≡ sets tab first (table_rows (spans_from first t)))
  caret_holds leaf rest e few = absurd (some (node_byte bytes rest at 0 h e))
  caret_holds (caret l r) rest e few = go (left.holds l (shape r ++ rest) below (omega (arith, few)))
    where
      below : drop (at + 1) bytes ≡ shape l ++ (shape r ++ rest)
      below =
          sym (drop-drop 1 at bytes) ∙ ap (drop 1) e ∙ append_assoc (shape l) (shape r) rest

      go : (right ≡ at + 1 + (2 * carets l + 1)) × (one ≡ sets tab first (table_rows (spans_from first l)))
          → (last ≡ at + (2 * (carets l + suc (carets r)) + 1))
          × (end ≡ sets tab first (table_rows (spans_from first (caret l r))))
      go (ends, wrote) = finish (other.holds r rest behind (omega (arith, few, middle)))
        where
          middle : mid ≡ first + carets l
          middle = omega (arith, place, ends)

          behind : drop right bytes ≡ shape r ++ rest
          behind =
              ap (λ (k : ℕ). drop k bytes) ends
              ∙ sym (drop-drop (2 * carets l + 1) (at + 1) bytes)
              ∙ ap (drop (2 * carets l + 1)) below
              ∙ drop_at (shape l) (shape r ++ rest) (2 * carets l + 1) (shape-length l)

          finish : (last ≡ right + (2 * carets r + 1))
              × (two ≡ sets one (mid + 1) (table_rows (spans_from (mid + 1) r)))
              → (last ≡ at + (2 * (carets l + suc (carets r)) + 1))
              × (end ≡ sets tab first (table_rows (spans_from first (caret l r))))
          finish (stops, later) =
              let w = first + suc (carets l + carets r) - first in
              let rows = table_rows (spans_from (mid + 1) r) in
              let front = table_rows (spans_from first l) in
              let own : CaretSpan = record { first = first; width = w } in
              let from : mid + 1 ≡ suc (first + carets l) = omega (arith, middle) in
              let place_of : mid ≡ first + length front =
              omega (arith, middle, rows_length (spans_from first l), spans-length first l) in
              let joined : end ≡ sets tab first (front ++ (own ∷ rows)) =
              own_row rows w (omega (arith, few, middle)) (omega (arith, ends, stops)) later
              ∙ ap₂ (λ (k : ℕ) (s : List CaretSpan). sets s k (own ∷ rows)) place_of wrote
              ∙ sets-two front tab first (own ∷ rows) in
              let same : front ++ (own ∷ rows) ≡ table_rows (spans_from first (caret l r)) =
              ap (λ (k : ℕ). front ++ (own ∷ table_rows (spans_from k r))) from
              ∙ sym (rows_append (spans_from first l) _) in
              (omega (arith, ends, stops), joined ∙ ap (sets tab first) same)

  pub read_caret : SpansRead bytes at first tab end last
  read_caret = record {
    on = omega (arith, left.on, other.on);
    within = other.within;
    moves = λ k. omega (arith, left.on, other.on);
    holds = caret_holds;
  }
