-- Nodes packed into numbers, and when nodes are the shapes of trees.
pub mod Numbers
pub mod Closing
-- what no claim reaches
pub mod inside
