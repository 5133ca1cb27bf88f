-- `pair` meets its contract: the number and the shapes, or the refusal. Assumes nothing.
use borrow.Author.Rules.{rules}
use mathlib.Core.Path.{sym, ap₂}
use Rattle.commands.specs.Answers.{line_of}
use Rattle.commands.specs.Records.{pair_line}
use Rattle.appending.proofs.Appending.{append_same}
use Rattle.commands.proofs.Replying.{denied_exit}
use Rattle.commands.proofs.PairAnswers.{pair_said, pair_denied}
use Rattle.commands.proofs.asking.pair.Goals as goal

pub returns-in_err-n : goal.returns-in_err-n
returns-in_err-n c =
    denied_exit _ _ _ _
    (pair_denied c.record_to_tree_pair.ensures c.in_err-n.was (search rules) (search rules)) c.from_residual.ensures.1

pub returns : goal.returns
returns c =
    let n = c.in_ok-n.n in
    let shapes = ap₂ (λ x y. line_of (pair_line n x y)) c.front-minus.ensures c.front-plus.ensures in (
      _,
      sym (pair_said c.record_to_tree_pair.ensures n c.in_ok-n.was (search rules) (search rules)),
      append_same shapes c.put_pair.ensures,
    )
