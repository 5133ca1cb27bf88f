-- `measure_labels` meets its contract: the number, or the refusal. Assumes nothing.
use mathlib.Core.Path.{refl, ap}
use Rattle.numerals.specs.Decimals.{decimal}
use Rattle.refusals.specs.Outcomes.{reply_of}
use Rattle.pairs.specs.Promises.{label_sum}
use Rattle.commands.proofs.Replying.{reply_line}
use Rattle.commands.proofs.Fronts.{measure_said}
use Rattle.commands.proofs.asking.measure_labels.Goals as goal

pub returns : goal.returns
returns c =
    reply_line decimal _ (measure_said label_sum c.record_to_label_length.ensures) _ _
    (ap reply_of c.in_ok-n.was) refl c.put_number.ensures
