-- `count_lines` meets its contract: as many lines as line feeds, and the unended last one. Assumes nothing.
use native.Mathlib.Omega.{arith}
use Rattle.lines.proofs.Counts.{lines_count, bytes_count}
use Rattle.lines.proofs.LineEnds.{lines_few}
use Rattle.lines.proofs.count_lines.Goals as goal

pub overflow_add-result : goal.overflow_add-result
overflow_add-result c =
    let s = c.args.bytes.now in
    omega (arith, c.count_unended-unended.ensures, c.count_feeds-feeds.ensures, lines_count s, lines_few s)

pub overflow_sub-result : goal.overflow_sub-result
overflow_sub-result c =
    let s = c.args.bytes.now in
    omega (arith, c.count_feeds-feeds.ensures, bytes_count s)

pub returns : goal.returns
returns c =
    let s = c.args.bytes.now in
    let feeds = c.count_feeds-feeds.ensures in record {
      lines_value = omega (arith, c.count_unended-unended.ensures, feeds, lines_count s);
      bytes_value = omega (arith, feeds, bytes_count s);
    }
