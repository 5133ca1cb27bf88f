-- The worked examples of the papers.
pub mod Worked
pub mod Shapes
