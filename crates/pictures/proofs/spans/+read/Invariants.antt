-- `read` meets its contract: no node, a leaf, or a caret with its two subtrees; the bytes from the node on get fewer.
-- Assumes nothing.
use Prim.Native.Nat.{◌-◌}
use lib.ListN.{length}
use Rattle.pictures.proofs.spans.+read.Given as goal

abbrev pub decreases-read : goal.decreases-read
decreases-read l = length l.shape.now - l.at
