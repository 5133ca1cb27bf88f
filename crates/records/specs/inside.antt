-- The steps of the reading, the walk over the entries, the contract of the reader of tables, and exchanges.
-- Inside: no claim reaches these definitions; a reader of the claims need not believe them.
pub mod Steps
pub mod Walking
pub mod Contracts
pub mod Exchanging
