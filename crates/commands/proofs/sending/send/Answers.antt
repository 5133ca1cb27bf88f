-- `send` meets its contract: too long a text, or the record that is found. Assumes nothing.
use borrow.Author.Rules.{rules}
use mathlib.Core.Path.{sym, ◌∙◌}
use Rattle.commands.specs.Answers.{denying}
use Rattle.commands.specs.Words.{long_text, long, read}
use Rattle.commands.proofs.sending.send.Goals as goal

pub returns-then-is_long : goal.returns-then-is_long
returns-then-is_long c =
    record {
      what = denying long_text;
      found = long (sym c.is_long.ensures ∙ c.if-is_long.true);
      says = c.refuse_long.ensures;
    }

pub returns : goal.returns
returns c =
    let p = c.put_record-reply.ensures in
    record {
      what = _;
      found = read (sym c.is_long.ensures ∙ c.if-is_long.false) _ p.found;
      says = c.answer.ensures _ _ (search rules) p.reply;
    }
