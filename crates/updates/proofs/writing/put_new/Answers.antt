-- `put_new` meets its contract: the number, the entry in the part behind the last one, and the mark. Assumes nothing.
use native.Mathlib.Omega.{arith}
use Rattle.records.proofs.SmallerRecords.{smaller_long}
use Rattle.updates.proofs.Putting.{new_put}
use Rattle.updates.proofs.writing.put_new.Goals as goal

pub overflow_add-p : goal.overflow_add-p
overflow_add-p c =
    omega (
      arith,
      c.requires.room,
      c.requires.short,
      c.put_entry-n.ensures.ends,
      smaller_long c.args.«record».now c.requires.framed,
    )

pub returns : goal.returns
returns c =
    new_put c.requires c.put_four.ensures c.put_entry-n.ensures c.put_mark.ensures
    c.charge.ensures
