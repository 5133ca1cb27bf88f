-- Packed shapes, growing, and the contracts of the calls.
pub mod Packing
pub mod Growing
pub mod Answers
pub mod Promises
-- what no claim reaches
pub mod inside
