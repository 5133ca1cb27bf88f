-- `put_record` meets its contract: what the lent part gets is written behind the first field. Assumes nothing.
use native.Mathlib.Omega.{arith}
use Rattle.lists.proofs.Writes.{write_then, write_part}
use Rattle.encoding.proofs.writing.put_record.Goals as goal

pub returns : goal.returns
returns c =
    write_then
    c.put_side-at.ensures
    (write_part
    c.put_side-at.result
    _
    c.put_side-at.new.out
    _
    _
    (omega (arith, c.put_side-at.ensures, c.put_side-at.auto, c.requires))
    c.put_side-more.ensures)
