use Rattle.std.proofs.Common.{rules}
use Rattle.lines.proofs.Counts.{last_other, last_feed}
use Rattle.lines.proofs.counting.count_unended.Goals as goal

pub returns-in-Some : goal.returns-in-Some
returns-in-Some c = last_other c.args.bytes.now _ (search rules) (search rules) c.if-x-ne-LINE_FEED.true

pub returns-in_default : goal.returns-in_default
returns-in_default c = last_feed c.args.bytes.now _ (search rules) (search rules) c.if-x-ne-LINE_FEED.false
