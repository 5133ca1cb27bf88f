-- The shape of a tree at the front of a buffer: its leaves, and the table of the classes of its carets.
--     shape_readable   the reader may begin             table-classes   the table holds the classes of the shape
--     shapes_classed   the classes of a pair were written
--     shapes_sum       the sum over two tables is that over two shapes
-- Assumes nothing.
use mathlib.Core.Path.{◌≡◌, refl, sym, ap, ap₂, subst, ◌∙◌}
use mathlib.Core.List.{List, [], ◌∷◌, ◌++◌}
use Prim.Native.Nat.{ℕ, zero, suc, ◌+◌, ◌≤◌}
use native.Mathlib.Omega.{arith}
use lib.ListN.{length, take, drop, length-append}
use lib.Seq.{length-take-le, take-append-le, sets, length-sets}
use Rattle.lists.proofs.Writes.{sets_front}
use Rattle.trees.specs.Trees.{Tree, leaf, caret, carets}
use Rattle.trees.specs.Pairs.{max_carets}
use Rattle.trees.specs.Shapes.{shape, shape_size}
use Rattle.trees.specs.inside.ShapeReading.{Exact, read_shape}
use Rattle.trees.proofs.Shapes.{shape-length, exact_shape}
use Rattle.lengths.specs.Classes.{Class}
use Rattle.lengths.specs.Kinds.{kinds_of}
use Rattle.lengths.specs.Weights.{weights}
use Rattle.lengths.specs.inside.Reading.{shape_classes}
use Rattle.lengths.specs.inside.Steps.{
  class_bytes,
  classes_of,
  leaves_in,
  EndsOutside,
  Readable,
  PairShaped,
  PairClassed,
}
use Rattle.lengths.proofs.ShapeClasses.{shape-classes, classes-length}
use Rattle.lengths.proofs.ClassBytes.{classes_read, bytes_length}
use Rattle.lengths.proofs.PairBounds.{last_not_inside}

-- A tree has one leaf more than carets.
leaves-append : (s t : List ℕ) → leaves_in (s ++ t) ≡ leaves_in s + leaves_in t
leaves-append [] t = omega arith
leaves-append (zero ∷ s) t = omega (arith, leaves-append s t)
leaves-append (suc b ∷ s) t = leaves-append s t

pub leaves-shape : (t : Tree) → leaves_in (shape t) ≡ suc (carets t)
leaves-shape leaf = refl
leaves-shape (caret l r) = omega (arith, leaves-append (shape l) (shape r), leaves-shape l, leaves-shape r)

-- A shape of n carets at the front of a buffer.
module _ (buffer : List ℕ) (n : ℕ) (room : shape_size n ≤ length buffer)
    (exact : Exact (take (shape_size n) buffer) 1) where
  abbrev bytes : List ℕ
  bytes = take (shape_size n) buffer

  same : shape (read_shape bytes) ≡ bytes
  same = (exact_shape bytes).0 exact

  carets_count : carets (read_shape bytes) ≡ n
  carets_count =
      omega (arith, shape-length (read_shape bytes), ap length same, length-take-le (shape_size n) buffer room)

  leaves_count : leaves_in bytes ≡ suc n
  leaves_count = sym (ap leaves_in same) ∙ leaves-shape (read_shape bytes) ∙ ap suc carets_count

  classes_count : length (shape_classes bytes) ≡ n
  classes_count =
      sym (ap (λ (s : List ℕ). length (shape_classes s)) same)
      ∙ ap length (shape-classes (read_shape bytes))
      ∙ classes-length (read_shape bytes)
      ∙ carets_count

  -- The reader may begin.
  pub shape_readable : n ≤ max_carets → Readable bytes 0 1 0
  shape_readable few = record { exact = exact; behind = omega arith; small = omega (arith, leaves_count) }

  -- The classes were written over the shape: they stand at the front of the buffer.
  module _ {written : List ℕ} (e : written ≡ sets bytes 0 (class_bytes (shape_classes bytes))) where
    size : length written ≡ shape_size n
    size =
        ap length e
        ∙ length-sets bytes 0 (class_bytes (shape_classes bytes))
        ∙ length-take-le (shape_size n) buffer room

    table_room : n ≤ length (written ++ drop (shape_size n) buffer)
    table_room = omega (arith, size, length-append written (drop (shape_size n) buffer))

    table-classes : classes_of (take n (written ++ drop (shape_size n) buffer)) ≡ shape_classes bytes
    table-classes =
        let cs = class_bytes (shape_classes bytes) in
        let count : length cs ≡ n = bytes_length (shape_classes bytes) ∙ classes_count in
        ap classes_of
        (take-append-le n written (drop (shape_size n) buffer) (omega (arith, size))
        ∙ ap (take n) e
        ∙ sets_front cs bytes n count (omega (arith, length-take-le (shape_size n) buffer room)))
        ∙ classes_read (shape_classes bytes)

    -- The last of them is not that of an interior caret.
    table-ends : EndsOutside (classes_of (take n (written ++ drop (shape_size n) buffer)))
    table-ends =
        let tree = read_shape bytes in
        subst EndsOutside (sym (shape-classes tree) ∙ ap shape_classes same ∙ sym table-classes) (last_not_inside tree)

-- The classes of a pair were written over its shapes: its last carets are not interior.
pub shapes_classed : {minus plus : List ℕ} {n : ℕ} → PairShaped minus plus n → {m p : List ℕ}
    → m ≡ sets (take (shape_size n) minus) 0 (class_bytes (shape_classes (take (shape_size n) minus)))
    → p ≡ sets (take (shape_size n) plus) 0 (class_bytes (shape_classes (take (shape_size n) plus)))
    → PairClassed (m ++ drop (shape_size n) minus) (p ++ drop (shape_size n) plus) n
shapes_classed {minus} {plus} {n} h em ep = record {
  few = h.few;
  minus_room = table_room minus n h.minus_room h.minus_exact em;
  plus_room = table_room plus n h.plus_room h.plus_exact ep;
  minus_ends = table-ends minus n h.minus_room h.minus_exact em;
  plus_ends = table-ends plus n h.plus_room h.plus_exact ep;
}

-- The sum over the tables of a pair is that over its shapes.
pub shapes_sum : {minus plus : List ℕ} {n : ℕ} → PairShaped minus plus n → {m p : List ℕ} {r : ℕ}
    → m ≡ sets (take (shape_size n) minus) 0 (class_bytes (shape_classes (take (shape_size n) minus)))
    → p ≡ sets (take (shape_size n) plus) 0 (class_bytes (shape_classes (take (shape_size n) plus)))
    → r ≡ weights (kinds_of (classes_of (take n (m ++ drop (shape_size n) minus))))
    (kinds_of (classes_of (take n (p ++ drop (shape_size n) plus))))
    → r ≡ weights (kinds_of (shape_classes (take (shape_size n) minus))) (kinds_of (shape_classes (take (shape_size n) plus)))
shapes_sum {minus} {plus} {n} h em ep e =
    e
    ∙ ap₂ (λ (cs ds : List Class). weights (kinds_of cs) (kinds_of ds))
    (table-classes minus n h.minus_room h.minus_exact em)
    (table-classes plus n h.plus_room h.plus_exact ep)
