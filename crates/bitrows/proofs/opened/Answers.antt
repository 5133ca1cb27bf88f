-- `opened` meets its contract. Assumes nothing.
use mathlib.Core.Path.{refl}
use Prim.Native.Nat.{◌%◌, ◌^◌}
use native.Mathlib.Nat.{mod-lt}
use lib.Dec.{lit<}
use Rattle.bitrows.proofs.Inserting.{opened_fits, moved_fits, moved_at}
use Rattle.bitrows.proofs.opened.Goals as goal

pub overflow_add-result : goal.overflow_add-result
overflow_add-result c =
    let args = c.args in
    let low = c.below-low in
    record {
      fits =
          rw (moved_at args.x low.result c.bit_of.result args.node.0 low.ensures c.bit_of.ensures)
          (moved_fits args.x (args.node.0 % 64) c.ranges.x.fits (mod-lt args.node.0 (lit< tt)));
    }

pub overflow_add-result-2 : goal.overflow_add-result-2
overflow_add-result-2 c =
    let args = c.args in
    record {
      fits =
          rw c.below-low.ensures
          (rw (moved_at args.x (args.x % 2 ^ (args.node.0 % 64)) c.bit_of.result args.node.0 refl
          c.bit_of.ensures)
          (opened_fits args.x (args.node.0 % 64) c.ranges.x.fits (mod-lt args.node.0 (lit< tt))));
    }
