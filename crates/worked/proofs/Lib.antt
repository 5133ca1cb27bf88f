-- The proofs of the worked examples.
pub mod Worked
pub mod Shapes
