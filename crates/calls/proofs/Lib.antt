-- The proofs: the functions' own theorems, and how a claim on a relation becomes one on a function.
pub mod Always
pub mod Calls
pub mod Demanded
pub mod DemandedOfLists
pub mod DemandedOfRegisters
pub mod DemandedOfShapes
pub mod Exported
pub mod Claims
