-- `copy_bytes` meets its contract: after i turns the first i bytes stand in front. Assumes nothing.
use mathlib.Core.Path.{◌≡◌}
use lib.ListN.{get_or}
use Rattle.lists.specs.Tables.{filled}
use Rattle.copying.proofs.copy_bytes.Given as goal

abbrev pub invariant-loop-i : goal.invariant-loop-i
invariant-loop-i l = l.to ≡ filled l.i (λ k. get_or l.from k 0) l.initial.to
