-- The contracts of the two calls on subscript notation.
pub mod Promises
-- what no claim reaches
pub mod inside
