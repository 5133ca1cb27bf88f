-- Laws of trees.

-- leaves and their exponents, carets
pub mod Leaves
pub mod Exponents
pub mod Carets
-- the tree with given exponents; the pair of a form; redundant carets
pub mod Rows
pub mod Needed
pub mod Built
pub mod Pairs
pub mod Exposed
pub mod Exposing
pub mod Redundant
-- the form's map, leaf by leaf
pub mod Slots
pub mod Sending
-- shapes
pub mod Shapes
pub mod Subtrees
pub mod SubtreeEnds
pub mod Nodes
-- the steps of the functions
pub mod ZeroBlocks
pub mod Counting
pub mod WriteSteps
pub mod WriteTree
pub mod PairAnswers
