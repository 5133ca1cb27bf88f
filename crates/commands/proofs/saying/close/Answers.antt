-- `close` meets its contract: the text stands in front, or it is said to be too long. Assumes nothing.
use native.Mathlib.Omega.{arith}
use Rattle.commands.proofs.Closing.{close_front, close_over}
use Rattle.commands.proofs.saying.close.Goals as goal

pub returns-then-end-eq-BEYOND : goal.returns-then-end-eq-BEYOND
returns-then-end-eq-BEYOND c text start size a =
    close_over text start size a c.args.refused (omega arith) c.append.ensures

pub returns : goal.returns
returns c text start size a =
    close_front text start size a c.args.refused (λ e. omega (arith, e))
