-- `powers::move_on` meets its contract: a bush of the stack passed in a turn, by `Going`.
-- Assumes nothing.
use mathlib.Core.Path.{◌≡◌}
use Prim.Native.Nat.{◌+◌, ◌≤◌}
use Rattle.forest.proofs.Seeking.{Going}
use Rattle.forest.proofs.powers.move_on.Given as goal

abbrev pub invariant-loop-i : goal.invariant-loop-i
invariant-loop-i l =
    Going l.initial.before l.stack l.front l.height l.before l.stack l.i l.h × (l.front ≤ l.i) × (l.i ≤ l.end)
    × (l.i + l.h ≡ l.front + l.height)
