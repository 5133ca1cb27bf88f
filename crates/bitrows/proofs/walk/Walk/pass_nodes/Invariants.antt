-- `pass_nodes` meets its contract. Assumes nothing.
use Prim.Native.Nat.{◌+◌, ◌<◌}
use Rattle.bitrows.proofs.Passing.{Amid}
use Rattle.bitrows.proofs.walk.Walk.pass_nodes.Given as goal

abbrev pub invariant-loop-at : goal.invariant-loop-at
invariant-loop-at l =
    Amid l.x l.fn.self.at l.fn.self.pending l.end l.at l.pending l.rest
    × (l.fn.self.at < l.at + l.pending) × (l.fn.self.at < l.end)
