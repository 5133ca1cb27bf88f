-- `powers::skip_zeros` meets its contract: a tip passed in a turn, by `Going` with any stack.
-- Assumes nothing.
use mathlib.Core.List.{List}
use Prim.Native.Nat.{ℕ, ◌≤◌}
use Rattle.forest.proofs.Seeking.{Going}
use Rattle.forest.proofs.powers.skip_zeros.Given as goal

abbrev pub invariant-loop-i : goal.invariant-loop-i
invariant-loop-i l =
    ((stack : List ℕ) → Going l.before stack l.front l.height l.before stack l.i l.height) × (l.k ≤ l.i)
    × (l.i ≤ l.front)
