-- `fill_powers` meets its contract: what is unfit is refused; else the powers are piled, read off and handed over.
-- Assumes nothing.
use mathlib.Core.Path.{sym, ◌∙◌}
use Rattle.forest.proofs.Fitting.{powers_ready}
use Rattle.forest.proofs.HandedOver.{powers-filled}
use Rattle.forest.proofs.fill_powers.Goals as goal

pub pile_powers-height-requires : goal.pile_powers-height-requires
pile_powers-height-requires c =
    let powers = c.powers_fit in
    let scratch = c.scratch_fits in
    powers_ready (sym scratch.ensures ∙ c.if-not-scratch_fits.false) (sym powers.ensures ∙ c.if-not-powers_fit.false)

pub returns : goal.returns
returns c =
    let powers = c.powers_fit in
    let scratch = c.scratch_fits in
    powers-filled (sym scratch.ensures ∙ c.if-not-scratch_fits.false) (sym powers.ensures ∙ c.if-not-powers_fit.false)
    c.pile_powers-height.ensures c.read_pile.ensures
