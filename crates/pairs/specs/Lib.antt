-- The contracts of the calls.
pub mod Promises
-- what no claim reaches
pub mod inside
