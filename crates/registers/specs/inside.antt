-- The steps of the pass over a register's entries.
-- Inside: no claim reaches these definitions; a reader of the claims need not believe them.
pub mod Steps
