-- The bytes of classes, as a table keeps them: what the tests of the code say of them. Assumes nothing.
use mathlib.Core.Path.{◌≡◌, refl, ap, ap₂}
use mathlib.Core.List.{List, [], ◌∷◌}
use Prim.Native.Nat.{ℕ, zero, suc}
use native.Mathlib.Omega.{arith}
use lib.Dec.{leb}
use lib.ListN.{length}
use borrow.Author.Tests.{le-leb}
use Rattle.lengths.specs.Classes.{Class, on_left, on_right, inside_leaf, inside_caret}
use Rattle.lengths.specs.Kinds.{inside}
use Rattle.lengths.specs.inside.Steps.{class_byte, class_of, class_bytes, classes_of}

-- The bytes from 2 on are those of interior carets.
pub inside_test : (b : ℕ) → leb 2 b ≡ inside (class_of b)
inside_test zero = refl
inside_test (suc zero) = refl
inside_test (suc (suc zero)) = refl
inside_test (suc (suc (suc b))) = le-leb 2 (suc (suc (suc b))) (omega arith)

-- Reading the bytes of classes gives the classes.
pub class_read : (c : Class) → class_of (class_byte c) ≡ c
class_read on_left = refl
class_read on_right = refl
class_read inside_leaf = refl
class_read inside_caret = refl

pub classes_read : (cs : List Class) → classes_of (class_bytes cs) ≡ cs
classes_read [] = refl
classes_read (c ∷ cs) = ap₂ (λ (d : Class) (ds : List Class). d ∷ ds) (class_read c) (classes_read cs)

pub classes_count : (bs : List ℕ) → length (classes_of bs) ≡ length bs
classes_count [] = refl
classes_count (b ∷ bs) = ap suc (classes_count bs)

pub bytes_length : (cs : List Class) → length (class_bytes cs) ≡ length cs
bytes_length [] = refl
bytes_length (c ∷ cs) = ap suc (bytes_length cs)
