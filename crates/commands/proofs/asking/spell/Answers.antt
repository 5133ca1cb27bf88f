-- `spell` meets its contract: what stands at the front is the word. Assumes nothing.
use borrow.Author.Rules.{rules}
use mathlib.Core.Path.{ap}
use lib.ListN.{take}
use Rattle.refusals.specs.Outcomes.{reply_of}
use Rattle.commands.proofs.Replying.{reply_line}
use Rattle.commands.proofs.Fronts.{spelled_said}
use Rattle.commands.proofs.asking.spell.Goals as goal

pub returns : goal.returns
returns c =
    reply_line (λ n. take n c.record_to_word.new.word) _ (spelled_said (search rules) c.record_to_word.ensures) _ _
    (ap reply_of c.in_ok-n.was) c.front.ensures c.put_line.ensures
