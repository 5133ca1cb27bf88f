-- Nodes as lists, growing inside a number, and the walk over packed nodes.
-- Inside: no claim reaches these definitions; a reader of the claims need not believe them.
pub mod Nodes
pub mod Growth
pub mod Walking
