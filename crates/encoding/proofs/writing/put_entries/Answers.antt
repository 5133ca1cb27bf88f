use native.Mathlib.Omega.{arith}
use Rattle.encoding.proofs.WriteLoops.{put_start, put_more, put_room, put_done}
use Rattle.encoding.proofs.writing.put_entries.Goals as goal

pub loop-index-init : goal.loop-index-init
loop-index-init c = put_start _ _ _

pub put_entry-end-requires : goal.put_entry-end-requires
put_entry-end-requires c = (put_room c.loop-index.invariant (omega arith) c.requires.table_in_bounds, omega arith)

pub loop-index-preserved : goal.loop-index-preserved
loop-index-preserved c = put_more c.loop-index.invariant (omega arith) c.put_entry-end.ensures

pub returns : goal.returns
returns c = put_done c.loop-index.invariant (omega arith)
