-- `is_short` meets its contract. Assumes nothing.
use mathlib.Core.Path.{◌∙◌}
use borrow.Author.Tests.{lt-ltb}
use Rattle.lines.specs.Lines.{lines_of}
use Rattle.wordlists.proofs.Sizes.{short_lines, short_bytes}
use Rattle.wordlists.proofs.is_short.Goals as goal

pub returns-then-out-counted : goal.returns-then-out-counted
returns-then-out-counted c =
    let count = c.count_lines-counted.ensures in
    let less = c.if-out-counted.true in
    lt-ltb _ _ less ∙ short_lines (lines_of c.args.list.now) _ _ _ count.lines_value count.bytes_value less

pub returns-else-out-counted : goal.returns-else-out-counted
returns-else-out-counted c =
    let count = c.count_lines-counted.ensures in
    short_bytes (lines_of c.args.list.now) _ _ _ count.lines_value count.bytes_value c.if-out-counted.false
