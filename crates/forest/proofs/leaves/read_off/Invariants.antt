-- `leaves::read_off` meets its contract: the loop of `Reading`, one entry of each table in a turn.
-- Assumes nothing.
use Rattle.forest.proofs.Reading.{Reading}
use Rattle.forest.proofs.leaves.read_off.Given as goal

abbrev pub invariant-loop-i : goal.invariant-loop-i
invariant-loop-i l =
    Reading l.last l.lefts l.rights l.initial.stack l.low l.initial.b_table l.initial.a_table l.end l.stack l.b_table
    l.a_table l.height
    l.i
