-- `thompson_grow_caret` meets its contract: a leaf above 65,535 is refused as the call refuses it. Assumes nothing.
use mathlib.Core.Path.{refl}
use native.Mathlib.Omega.{arith}
use Rattle.std.specs.Prelude.{Err}
use Rattle.refusals.specs.declared.Refusal.TheVariants.{NotTree}
use Rattle.growing.proofs.GrowAnswers.{answer_none}
use Rattle.thompson.proofs.thompson_grow_caret.Goals as goal

pub returns-in_default : goal.returns-in_default
returns-in_default c = record {
  passed = Err NotTree;
  numbers = c.from.ensures;
  meets = answer_none c.args.numbers.now c.args.summary.now c.args.leaf (Err NotTree)
      (omega (arith, c.in_default.ensures)) refl;
}
