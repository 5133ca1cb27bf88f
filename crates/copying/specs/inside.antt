-- The front of a table, copied.
-- Inside: no claim reaches these definitions; a reader of the claims need not believe them.
pub mod Copying
