-- `fill_table` meets its contract: the exponents go into a cleared table, entry by entry. Assumes nothing.
use Prim.Native.Nat.{◌+◌, ◌-◌, ◌*◌}
use Rattle.records.proofs.Placing.{PlacingLoop}
use Rattle.records.proofs.tables.fill_table.Given as goal

abbrev pub invariant-loop-i : goal.invariant-loop-i
invariant-loop-i l = PlacingLoop l.s l.p.at l.p.left l.initial.table l.table (l.p.at + 4 * l.i) (l.p.left - l.i)
