-- `verdict` meets its contract: two framed records are equal, or exchanged, or neither. Assumes nothing.
use mathlib.Core.Path.{sym, ◌∙◌}
use lib.Pointwise.{bytes_decides}
use Rattle.comparisons.proofs.Verdicts.{verdict_equal, verdict_unequal}
use Rattle.comparisons.proofs.verdict.Goals as goal

pub returns-then-eq : goal.returns-then-eq
returns-then-eq c = verdict_equal _ _ ((bytes_decides _ _).0 (sym c.eq.ensures ∙ c.if-eq.true))

pub returns-then-is_exchange : goal.returns-then-is_exchange
returns-then-is_exchange c =
    verdict_unequal _ c.requires (bytes_decides _ _).1 (sym c.eq.ensures ∙ c.if-eq.false)
    (sym c.is_exchange.ensures ∙ c.if-is_exchange.true)

pub returns-else-is_exchange : goal.returns-else-is_exchange
returns-else-is_exchange c =
    verdict_unequal _ c.requires (bytes_decides _ _).1 (sym c.eq.ensures ∙ c.if-eq.false)
    (sym c.is_exchange.ensures ∙ c.if-is_exchange.false)
