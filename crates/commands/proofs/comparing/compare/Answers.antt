-- `compare` meets its contract: by the decision. Assumes nothing.
use borrow.Author.Rules.{rules}
use Rattle.refusals.specs.Memory.{memory}
use Rattle.commands.proofs.Closing.{says_same}
use Rattle.commands.proofs.TwoWords.{compared_said}
use Rattle.commands.proofs.comparing.compare.Goals as goal

pub returns : goal.returns
returns c =
    let x = c.args in
    says_same
    (compared_said x.word1.now x.word2.now {m = memory x.first.now.b x.first.now.a x.first.now.«record»}
    {n = memory x.second.now.b x.second.now.a x.second.now.«record»}
    (record {
      b = search rules;
      a = search rules;
      buffer = search rules;
    })
    (record {
      b = search rules;
      a = search rules;
      buffer = search rules;
    })
    c.same_element-decision.ensures)
    c.say_decision.ensures
