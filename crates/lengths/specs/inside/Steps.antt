-- The steps of the reader of shapes and of the sum of weights, for the functions inside this crate.
--     class_byte      a class as it is kept in a table        kind_named   the kind that a case of `CaretKind` names
--     label_named     the label that a case of `CaretLabel` names
--     Readable       what is left of a shape, behind the classes of the carets so far
--     length_within   the length of a pair whose shapes have room in buffers of some size
-- Assumes nothing.
use Rattle.std.specs.Prelude.{◌≡◌, cond, false, List, [], ◌∷◌, ℕ, zero, suc, ◌+◌, ◌≤◌, ◌<◌, length, take, drop, ltb}
use Rattle.std.proofs.lemmas.List.Edits.{sets}
use Rattle.std.specs.Prelude.{Option, Some}
use Rattle.lists.specs.inside.Writes.{Writing}
use Rattle.refusals.specs.Outcomes.{Outcome, accepted, refused, then}
use Rattle.trees.specs.Building.{tree_of}
use Rattle.trees.specs.Pairs.{max_carets}
use Rattle.trees.specs.Shapes.{shape_size}
use Rattle.trees.specs.inside.ShapeReading.{Exact}
use Rattle.trees.specs.inside.Writing.{table_carets}
use Rattle.lengths.specs.declared.kinds.CaretKind.{CaretKind}
use Rattle.lengths.specs.declared.kinds.CaretKind.TheVariants as Named
use Rattle.lengths.specs.declared.kinds.CaretLabel.{CaretLabel}
use Rattle.lengths.specs.declared.kinds.CaretLabel.TheVariants as Label-named
use Rattle.lengths.specs.declared.reader.Amid.{Amid}
use Rattle.lengths.specs.declared.reader.Place.{Place}
use Rattle.lengths.specs.Classes.{Class, on_left, on_right, inside_leaf, inside_caret}
use Rattle.lengths.specs.Kinds.{Kind, LL, RI, RN, R0, I0, IR, inside}
use Rattle.lengths.specs.Labels.{Label, 'I, 'N, 'L, 'R, 'X}
use Rattle.lengths.specs.Weights.{pair_length}
use Rattle.lengths.specs.inside.Reading.{classes_from, next_on_side, pending_classes}
use Rattle.lengths.specs.inside.Contracts.{length_of, table_length}

-- The byte of a class, and the class of a byte.
abbrev pub class_byte : Class → ℕ
class_byte on_left = 0
class_byte on_right = 1
class_byte inside_leaf = 2
class_byte inside_caret = 3

abbrev pub class_of : ℕ → Class
class_of zero = on_left
class_of (suc zero) = on_right
class_of (suc (suc zero)) = inside_leaf
class_of (suc (suc (suc n))) = inside_caret

-- The bytes of classes, and the classes of bytes.
abbrev pub class_bytes : List Class → List ℕ
class_bytes [] = []
class_bytes (c ∷ cs) = class_byte c ∷ class_bytes cs

abbrev pub classes_of : List ℕ → List Class
classes_of [] = []
classes_of (b ∷ bs) = class_of b ∷ classes_of bs

-- The kind that a case of the enum names, and its row and column.
abbrev pub kind_named : CaretKind → Kind
kind_named Named.R0 = R0
kind_named Named.RN = RN
kind_named Named.RI = RI
kind_named Named.LL = LL
kind_named Named.I0 = I0
kind_named Named.IR = IR

abbrev pub index_of : CaretKind → ℕ
index_of Named.R0 = 0
index_of Named.RN = 1
index_of Named.RI = 2
index_of Named.LL = 3
index_of Named.I0 = 4
index_of Named.IR = 5

-- The label that a case of the enum names.
abbrev pub label_named : CaretLabel → Label
label_named Label-named.I = 'I
label_named Label-named.N = 'N
label_named Label-named.L = 'L
label_named Label-named.R = 'R
label_named Label-named.X = 'X

-- The next caret of a side, by the carets of the left side to come, and those to come behind it.
abbrev pub on_side : ℕ → Class
on_side zero = on_right
on_side (suc l) = on_left

abbrev pub fewer : ℕ → ℕ
fewer zero = 0
fewer (suc l) = l

-- The leaves among the bytes of shapes.
abbrev pub leaves_in : List ℕ → ℕ
leaves_in [] = 0
leaves_in (zero ∷ s) = suc (leaves_in s)
leaves_in (suc b ∷ s) = leaves_in s

-- The carets in front of the first leaf.
abbrev pub left_carets : List ℕ → ℕ
left_carets [] = 0
left_carets (zero ∷ s) = 0
left_carets (suc b ∷ s) = suc (left_carets s)

-- From a node on, the shapes of so many trees stand. The next class, that of `caret`, is written over no node to come;
-- the carets to come, one between two leaves, are those of a tree that is not too large.
pub record Readable (shape : List ℕ) (at trees caret : ℕ) : Type 0 where
  pub exact : Exact (drop at shape) trees
  pub behind : caret ≤ at
  pub small : caret + leaves_in (drop at shape) ≤ suc max_carets

-- An interior subtree begins, and at least one subtree is behind it.
pub record Hanging (shape : List ℕ) (at caret : ℕ) : Type 0 where
  pub more : ℕ
  pub readable : Readable shape at (suc (suc more)) caret

-- Amid an interior subtree: `pending` subtrees of it are to come, and at least one is behind it.
pub record NodeReady (shape : List ℕ) (at caret pending : ℕ) : Type 0 where
  pub some : 0 < pending
  pub more : ℕ
  pub readable : Readable shape at (pending + suc more) caret

-- The number that the next caret has once the one that is due at the end of a subtree has its own.
abbrev pub after_due : (pending caret : ℕ) → ℕ
after_due zero caret = suc caret
after_due (suc o) caret = caret

-- One node of an interior subtree was read.
pub record NodeRead (entry : List ℕ) (at caret pending : ℕ) (exit : List ℕ) (r : Amid) : Type 0 where
  pub writing : (l : ℕ)
      → Writing (class_bytes (pending_classes (drop (at + 1) exit) r.pending l)) exit r.caret.0
      (class_bytes (pending_classes (drop at entry) pending l)) entry caret
  pub left : (more : ℕ) → Readable entry at (pending + suc more) caret
      → Readable exit (at + 1) (r.pending + suc more) (after_due r.pending r.caret.0)

-- An interior subtree was read; the caret of the side is next.
pub record SubtreeRead (entry : List ℕ) (at caret : ℕ) (exit : List ℕ) (r : Place) : Type 0 where
  pub writing : (l : ℕ)
      → Writing (class_bytes (next_on_side (drop r.at exit) l)) exit r.caret.0
      (class_bytes (classes_from (drop at entry) 1 l)) entry caret
  pub left : (more : ℕ) → Readable entry at (suc (suc more)) caret
      → Readable exit r.at (suc more) (suc r.caret.0)
  pub on : at < r.at

-- The rest of a tree was read from an interior subtree on: the caret of the side behind it is that of the class.
pub record InnerRead (entry : List ℕ) (at caret class lefts : ℕ) (exit : List ℕ) : Type 0 where
  pub holds : (l : ℕ) → class ≡ class_byte (on_side l) → lefts ≡ fewer l
      → exit ≡ sets entry caret (class_bytes (classes_from (drop at entry) 1 l))

-- The bytes are a shape, or begin with carets and a leaf.
pub record Shaped (shape : List ℕ) : Type 0 where
  pub exact : Exact shape 1

-- The shapes of a pair with n carets stand at the front of two buffers.
pub record PairShaped (minus plus : List ℕ) (n : ℕ) : Type 0 where
  pub few : n ≤ max_carets
  pub minus_room : shape_size n ≤ length minus
  pub plus_room : shape_size n ≤ length plus
  pub minus_exact : Exact (take (shape_size n) minus) 1
  pub plus_exact : Exact (take (shape_size n) plus) 1

-- The last class is not that of an interior caret.
abbrev pub EndsOutside : List Class → Type 0
EndsOutside [] = Unit {0}
EndsOutside (c ∷ []) = inside c ≡ false
EndsOutside (c ∷ d ∷ cs) = EndsOutside (d ∷ cs)

-- The classes of a pair with n carets stand at the front of two tables; the last caret of neither tree is interior.
pub record PairClassed (minus plus : List ℕ) (n : ℕ) : Type 0 where
  pub few : n ≤ max_carets
  pub minus_room : n ≤ length minus
  pub plus_room : n ≤ length plus
  pub minus_ends : EndsOutside (classes_of (take n minus))
  pub plus_ends : EndsOutside (classes_of (take n plus))

-- The length of the smallest pair with the exponents of two tables; unfit if its shapes have more than `size` bytes.
abbrev pub length_within : (size : ℕ) (b a : List ℕ) → Outcome ℕ
length_within size b a =
    then (table_carets b a) (λ n.
    cond (ltb size (shape_size n)) (refused 0 0) (accepted (pair_length (tree_of n a) (tree_of n b))))

-- An answer of which only the length counts: it is that of the tables.
pub record Found (b a : List ℕ) (r : Option ℕ) : Type 0 where
  pub fits : (k : ℕ) → r ≡ Some k → length_of r ≡ table_length b a
