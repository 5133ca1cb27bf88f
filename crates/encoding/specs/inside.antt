-- The contract of the record writer, and its terms for one table.
-- Inside: no claim reaches these definitions; a reader of the claims need not believe them.
pub mod Bodies
pub mod Contracts
