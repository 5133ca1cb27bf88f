-- `fill_tables` meets its contract: what is refused is kept, and the engine fills the tables of an accepted word.
-- Assumes nothing.
use mathlib.Core.Path.{sym, ◌∙◌}
use Rattle.forest.proofs.Filled.{tips_fit, tables_filled}
use Rattle.forest.proofs.fill_tables.Goals as goal

pub read_off-levels-requires : goal.read_off-levels-requires
read_off-levels-requires c = tips_fit c.in_ok-judge.was c.judge.ensures c.run-height.ensures

pub returns : goal.returns
returns c =
    tables_filled (sym c.word_fits.ensures ∙ c.if-not-word_fits.false) c.judge.result
    c.in_ok-judge.was c.judge.ensures c.run-height.ensures
    c.read_off-levels.ensures
