-- All that is said of the exports of a library: that each call of one ends with the relation of its contract, and what
-- the papers demand of it. Those of thompson are named by the theorem of all claims, Claims.antt; those of the static
-- library thompson_c, which C links, by crate thompson_c, proofs/Exported.antt. A record that speaks of the functions
-- of the papers too says the same of them for every library. Assumes nothing.
use Rattle.calls.specs.Functions.{Library}
use Rattle.calls.specs.Calls.{Exports}
use Rattle.calls.specs.Demanded.{DemandedOfExports, OneRecord}
use Rattle.calls.specs.DemandedOfLists.{DemandedOfLists}
use Rattle.calls.specs.DemandedOfRegisters.{DemandedOfRegisters}
use Rattle.calls.specs.DemandedOfShapes.{DemandedOfShapes}

pub record Exported (L : Library) : Type 2 where
  pub exports : Exports L
  pub demanded_of_exports : DemandedOfExports L
  pub one_record : OneRecord L
  pub demanded_of_lists : DemandedOfLists L
  pub demanded_of_registers : DemandedOfRegisters L
  pub demanded_of_shapes : DemandedOfShapes L
