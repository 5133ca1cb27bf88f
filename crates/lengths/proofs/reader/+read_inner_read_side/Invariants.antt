-- `read_side` and `read_inner` meet their contracts, in one proof of their cycle of calls: the nodes that are left fall
-- at each call. Assumes nothing.
use Prim.Native.Nat.{◌+◌, ◌*◌, ◌-◌}
use lib.ListN.{length}
use Rattle.lengths.proofs.reader.+read_inner_read_side.Given as goal

abbrev pub decreases-read_inner : goal.decreases-read_inner
decreases-read_inner l = 2 * (length l.shape.now - l.from.at)

abbrev pub decreases-read_side : goal.decreases-read_side
decreases-read_side l = 2 * (length l.shape.now - l.from.at) + 1
