-- `is_clear` meets its contract. Assumes nothing.
use Prim.Native.Nat.{◌-◌, ◌/◌, ◌%◌}
use lib.ListN.{get_or}
use Rattle.packed.proofs.Checks.{clear_shown, clear_seen}
use Rattle.packed.proofs.checking.is_clear.Goals as goal

pub returns : goal.returns
returns c =
    let last = c.args.nodes - 1 in
    let x = c.args.numbers.now in record {
      clear = clear_shown (get_or x (last / 64) 0) (last % 64);
      value = clear_seen (get_or x (last / 64) 0) (last % 64);
      wide = λ i. (c.type_inv.numbers i).fits;
    }
