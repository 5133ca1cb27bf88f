-- `powers::move_back` meets its contract: a bush stored in a turn, by `Going`.
-- Assumes nothing.
use mathlib.Core.Path.{◌≡◌}
use Prim.Native.Nat.{◌+◌, ◌≤◌}
use Rattle.forest.proofs.Seeking.{Going}
use Rattle.forest.proofs.powers.move_back.Given as goal

abbrev pub invariant-loop-i : goal.invariant-loop-i
invariant-loop-i l =
    Going l.before l.initial.stack l.front l.height l.before l.stack l.i l.h × (l.k ≤ l.i) × (l.i ≤ l.front)
    × (l.i + l.h ≡ l.front + l.height)
