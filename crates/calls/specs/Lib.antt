-- The demands said of the functions and of exports, and one theorem of all claims: start with Demanded.
pub mod Always
pub mod Functions
pub mod Demanded
pub mod DemandedOfLists
pub mod DemandedOfRegisters
pub mod DemandedOfShapes
pub mod Calls
pub mod Exported
pub mod Claims
