-- `write_spine` and `write_inner` meet their contracts, in one proof of their cycle of calls: the nodes that are left
-- fall at each call. Assumes nothing.
use lib.ListN.{length, drop}
use Rattle.trees.specs.inside.Writing.{nodes_from}
use Rattle.trees.proofs.writer.+write_inner_write_spine.Given as goal

abbrev pub decreases-write_inner : goal.decreases-write_inner
decreases-write_inner l = length (nodes_from (drop l.from.leaf.0 l.e.now) 1)

abbrev pub decreases-write_spine : goal.decreases-write_spine
decreases-write_spine l = length (nodes_from (drop l.from.leaf.0 l.e.now) 0)
