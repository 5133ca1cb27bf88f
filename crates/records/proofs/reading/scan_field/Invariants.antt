-- `scan_field` meets its contract. Assumes nothing.
use Prim.Native.Nat.{◌+◌, ◌-◌, ◌*◌}
use Rattle.records.proofs.Scanning.{Scanning}
use Rattle.records.proofs.reading.scan_field.Given as goal

abbrev pub invariant-loop-i : goal.invariant-loop-i
invariant-loop-i l = Scanning l.s l.p.at l.sum l.p.left (l.p.at + 4 * l.i) l.low l.total (l.p.left - l.i)
