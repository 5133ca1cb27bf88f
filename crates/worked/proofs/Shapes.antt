-- The rows of specs/Shapes.antt, by computation. Assumes nothing.
use mathlib.Core.Path.{refl}
use Rattle.lists.specs.Tables.{values}
use Rattle.lists.specs.SameBytes.{same_bytes}
use Rattle.worked.specs.Shapes.{WorkedShapes}

pub worked_shapes : WorkedShapes
unfolding values same_bytes
worked_shapes = record {
  packed_leaf = record { numbers = refl; summary = refl; unpacked = refl };
  packed_caret = record { numbers = refl; summary = refl; unpacked = refl };
  unused_bit = refl;
  wrong_summary = refl;
  short_summary = refl;
  no_number = refl;
  packed_comb = record { numbers = refl; summary = refl; unpacked = refl };
  packed_spine = record { numbers = refl; summary = refl; unpacked = refl };
  grown_last = record { lent = refl; grows = refl; numbers = refl; summary = refl };
  grown_comb = record { lent = refl; grows = refl; numbers = refl; summary = refl };
  grown_spine = record { lent = refl; grows = refl; numbers = refl; summary = refl };
}
