-- The spelling of a form, run by run, and the contract of record to word.
pub mod Runs
pub mod Spelling
pub mod Promises
-- what no claim reaches
pub mod inside
