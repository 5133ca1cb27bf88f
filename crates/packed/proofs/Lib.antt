-- Laws of packed shapes.

-- which bytes and which numbers are those of a tree
pub mod Trees
pub mod Reading
pub mod Grown
-- checking
pub mod Walks
pub mod Checks
pub mod Sums
pub mod Holding
pub mod Checked
-- packing and unpacking
pub mod PackSteps
pub mod UnpackSteps
-- the two questions
pub mod Asking
