-- `write` meets its contract: the engine's tables, then the record of their front. Assumes nothing.
use mathlib.Core.Path.{refl}
use Rattle.notation.proofs.Products.{filled_writes, filled_written}
use Rattle.notation.proofs.powers.Powers.write.Goals as goal

pub unwrap-requires : goal.unwrap-requires
unwrap-requires c =
    rw (filled_writes c.in_ok-levels.ensures c.in_ok-levels.levels refl c.args.«record».now c.requires _
    c.write_record-written.ensures) refl

pub returns : goal.returns
returns c =
    filled_written c.in_ok-levels.ensures c.in_ok-levels.levels refl c.args.«record».now c.requires _ _ c.unwrap.ensures
    c.write_record-written.ensures
