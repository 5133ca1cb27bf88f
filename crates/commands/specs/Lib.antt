-- The answers of the command line, a line each.
pub mod Answers
pub mod Records
pub mod Words
pub mod Promises
pub mod Parts
-- what no claim reaches
pub mod inside
