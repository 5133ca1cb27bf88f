use mathlib.Core.Path.{sym, ◌∙◌}
use native.Mathlib.Omega.{arith}
use Rattle.clause.proofs.Breaks.{break_here, break_later, break_nowhere}
use Rattle.clause.proofs.search.first_break.Goals as goal

pub returns-then-breaks : goal.returns-then-breaks
returns-then-breaks c =
    λ f h. break_here c.loop-i.invariant f h (omega arith) (sym c.if-breaks.true ∙ c.breaks.ensures)

pub loop-i-preserved : goal.loop-i-preserved
loop-i-preserved c =
    record {
      goes_on = λ f h. break_later c.loop-i.invariant f h (omega arith) (sym c.if-breaks.false ∙ c.breaks.ensures);
    }

pub returns : goal.returns
returns c = λ f h. break_nowhere c.loop-i.invariant f h (omega arith)
