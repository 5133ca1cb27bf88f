-- `powers::power` meets its contract: the loop of `Turning`.
-- Assumes nothing.
use Prim.Native.Nat.{◌-◌}
use Rattle.group.specs.inside.PowerLists.{side_of}
use Rattle.forest.proofs.PowerTurns.{Turning}
use Rattle.forest.proofs.powers.power.Given as goal

abbrev pub invariant-loop : goal.invariant-loop
invariant-loop l =
    Turning (side_of l.side) l.initial.lefts l.initial.rights l.initial.stack l.used l.height l.e l.lefts l.rights
    l.stack l.hand
    (l.e - l.counter)
