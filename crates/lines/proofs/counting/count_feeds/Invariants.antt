-- `counting::count_feeds` meets its contract: those counted, and those that are left, are all. Assumes nothing.
use Rattle.std.proofs.Common.{◌≡◌, ◌+◌, ◌≤◌, drop}
use Rattle.lines.specs.inside.Counting.{count_feeds_value}
use Rattle.lines.proofs.counting.count_feeds.Given as goal

abbrev pub invariant-loop-x : goal.invariant-loop-x
invariant-loop-x l =
    (l.n ≤ l.x-index) × (l.n + count_feeds_value (drop l.x-index l.bytes) ≡ count_feeds_value l.bytes)
