-- The steps along a side of the tree: the caret of the side, and the subtree that hangs on it. Assumes nothing.
use mathlib.Core.Path.{◌≡◌, refl, sym, ap, ap₂, ◌∙◌}
use mathlib.Core.List.{List, []}
use Prim.Native.Nat.{ℕ, suc, ◌+◌, ◌≤◌}
use native.Mathlib.Omega.{arith}
use lib.ListN.{drop, get_or}
use lib.Seq.{sets}
use Rattle.lengths.specs.Classes.{Class}
use Rattle.lengths.specs.inside.Reading.{classes_from, side_classes}
use Rattle.lengths.specs.inside.Steps.{class_bytes, Readable}
use Rattle.lengths.specs.inside.Steps.{InnerRead}
use Rattle.lengths.proofs.ReadSteps.{node_is, node_zero}

-- From the right side: a caret with its left subtree, or the last leaf.
module _ {shape : List ℕ} {at l caret : ℕ} (h : Readable shape at (suc l) caret) (none : l ≤ 0) where
  is_zero : l ≡ 0
  is_zero = omega arith

  right_classes_lem : get_or shape at 0 ≡ 1 → classes_from (drop (at + 1) shape) 1 0 ≡ side_classes (drop at shape) l
  unfolding classes_from
  right_classes_lem e =
      sym (ap₂ side_classes (node_is h (omega arith) 1 e) is_zero)

  last_classes : (get_or shape at 0 ≡ 1 → ⊥) → side_classes (drop at shape) l ≡ []
  unfolding classes_from
  last_classes no-caret = ap₂ side_classes (node_is h (omega arith) 0 (node_zero h (omega arith) no-caret)) is_zero

  pub right_written : {exit : List ℕ} → get_or shape at 0 ≡ 1 → InnerRead shape (at + 1) caret 1 0 exit
      → exit ≡ sets shape caret (class_bytes (side_classes (drop at shape) l))
  right_written e r =
      r.holds 0 refl refl ∙ ap (λ (cs : List Class). sets shape caret (class_bytes cs)) (right_classes_lem e)

  pub last_written : (get_or shape at 0 ≡ 1 → ⊥) → shape ≡ sets shape caret (class_bytes (side_classes (drop at shape) l))
  last_written no-caret =
      sym (ap (λ (cs : List Class). sets shape caret (class_bytes cs)) (last_classes no-caret))
