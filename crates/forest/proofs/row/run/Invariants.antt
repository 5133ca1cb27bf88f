-- `row::run` meets its contract: the loop of `Running`, from the last letter to the first, then two bushes.
-- Assumes nothing.
use mathlib.Core.Path.{◌≡◌}
use lib.ListN.{length}
use Rattle.forest.proofs.Running.{Running, Unread}
use Rattle.forest.proofs.row.run.Given as goal

abbrev pub invariant-loop-byte : goal.invariant-loop-byte
invariant-loop-byte l =
    Running l.last l.word l.lefts l.rights l.stack l.s (length l.byte-iterator.iter.rest.now)
    × Unread l.word l.byte-iterator.iter.rest.now
    × (length l.lefts ≡ length l.initial.lefts)
    × (length l.rights ≡ length l.initial.rights)
    × (length l.stack ≡ length l.initial.stack)
