-- What is demanded of the exports of a library follows from the relations that their calls end with. Assumes nothing.
use Rattle.calls.specs.Functions.{Library}
use Rattle.calls.specs.Calls.{Exports}
use Rattle.calls.specs.Exported.{Exported}
use Rattle.calls.proofs.Demanded.{demanded_of_exports, one_record}
use Rattle.calls.proofs.DemandedOfLists.{demanded_of_lists}
use Rattle.calls.proofs.DemandedOfRegisters.{demanded_of_registers}
use Rattle.calls.proofs.DemandedOfShapes.{demanded_of_shapes}

pub exported_by : {L : Library} → Exports L → Exported L
exported_by e = record {
  exports = e;
  demanded_of_exports = demanded_of_exports e;
  one_record = one_record e;
  demanded_of_lists = demanded_of_lists e;
  demanded_of_registers = demanded_of_registers e;
  demanded_of_shapes = demanded_of_shapes e;
}
