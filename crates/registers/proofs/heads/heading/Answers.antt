-- `heading` meets its contract: `heading_same`. Assumes nothing.
use mathlib.Core.Path.{refl}
use Rattle.registers.proofs.EntryHeads.{heading_same}
use Rattle.registers.proofs.heads.heading.Goals as goal

pub returns : goal.returns
returns c =
    heading_same c.args.s.now c.args.at c.args.length _ _ _ _ c.requires
    c.four_at.ensures.value c.number_at.ensures.value refl refl
