-- Laws of caret kinds and lengths.

-- the one reading of a tree, and the kinds and labels of its carets
pub mod ShapeClasses
pub mod Places
pub mod LaterKinds
pub mod CaretClasses
pub mod CaretKinds
pub mod CaretLabels
-- weights
pub mod Weights
pub mod ConstantTable
pub mod PairBounds
pub mod FormBounds
-- the steps of the functions
pub mod ClassBytes
pub mod ReadSteps
pub mod ReadLoops
pub mod Sides
pub mod LeftEdge
pub mod SumSteps
pub mod ShapeTables
pub mod PairLengths
