-- `write` meets its contract: what stands at the front is the text. Assumes nothing.
use borrow.Author.Rules.{rules}
use mathlib.Core.Path.{ap}
use lib.ListN.{take}
use Rattle.refusals.specs.Outcomes.{reply_of}
use Rattle.commands.proofs.Replying.{reply_line}
use Rattle.commands.proofs.Fronts.{text_said}
use Rattle.commands.proofs.asking.write.Goals as goal

pub returns : goal.returns
returns c =
    reply_line (λ n. take n c.record_to_text.new.text) _ (text_said (search rules) c.record_to_text.ensures) _ _
    (ap reply_of c.in_ok-n.was) c.front.ensures c.put_line.ensures
