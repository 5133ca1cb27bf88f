-- `pack_shape` meets its contract. Assumes nothing.
use mathlib.Core.Path.{refl, sym, ap, ◌∙◌}
use mathlib.Core.Logic.{◌⊎◌, inl, inr}
use Prim.Native.Nat.{◌<◌}
use lib.ListN.{length}
use Rattle.bitrows.specs.Numbers.{numbers_of_value}
use native.Mathlib.Omega.{arith}
use Rattle.refusals.specs.Outcomes.{accepted}
use Rattle.packed.proofs.Reading.{room_fits, room_short}
use Rattle.packed.proofs.PackSteps.{tree_few, packing_not, packing_room}
use Rattle.packed.proofs.Checked.{repacked_refused, repacked_filled}
use Rattle.packed.proofs.pack_shape.Goals.{then-numbers-n-via-then-numbers-n}
use Rattle.packed.proofs.pack_shape.Goals.{then-numbers-n-via-else-numbers-n+then-summary-n}
use Rattle.packed.proofs.pack_shape.Goals as goal

pub returns-then-not-is_tree : goal.returns-then-not-is_tree
returns-then-not-is_tree c =
    let args = c.args in
    repacked_refused _
    (packing_not args.shape.now args.numbers.now args.summary.now
    (sym c.is_tree.ensures ∙ c.if-not-is_tree.true))
    refl

pub numbers_of-n-requires : goal.numbers_of-n-requires
numbers_of-n-requires c =
    let args = c.args in
    omega (arith, (tree_few args.shape.now (sym c.is_tree.ensures ∙ c.if-not-is_tree.false)).small)

pub returns-then-numbers-n : goal.returns-then-numbers-n
returns-then-numbers-n c =
    let args = c.args in
    let short : (length args.numbers.now < numbers_of_value (length args.shape.now))
    ⊎ (length args.summary.now < numbers_of_value (length args.shape.now)) =
    elim c.then-numbers-n.branch [
      | then-numbers-n-via-then-numbers-n w ↦ inl (omega (arith, c.numbers_of-n.ensures, w.if-numbers-n.true))
      | then-numbers-n-via-else-numbers-n+then-summary-n w ↦
          inr (omega (arith, c.numbers_of-n.ensures, w.if-summary-n.true))
    ] in
    repacked_refused _
    (packing_room args.shape.now args.numbers.now args.summary.now
    (sym c.is_tree.ensures ∙ c.if-not-is_tree.false)
    ∙ room_short args.shape.now args.numbers.now args.summary.now short)
    refl

pub put_numbers-requires : goal.put_numbers-requires
put_numbers-requires c =
    let args = c.args in record {
      few_nodes = tree_few args.shape.now (sym c.is_tree.ensures ∙ c.if-not-is_tree.false);
      room = record {
        in_numbers = omega (arith, c.numbers_of-n.ensures);
        in_summary = omega (arith, c.numbers_of-n.ensures);
      };
    }

pub returns : goal.returns
returns c =
    let args = c.args in
    repacked_filled _
    (packing_room args.shape.now args.numbers.now args.summary.now
    (sym c.is_tree.ensures ∙ c.if-not-is_tree.false)
    ∙ room_fits args.shape.now args.numbers.now args.summary.now
    (omega (arith, c.numbers_of-n.ensures)) (omega (arith, c.numbers_of-n.ensures)))
    (ap accepted c.numbers_of-n.ensures)
    c.put_numbers.ensures.numbers_after
    c.put_numbers.ensures.summary_after
