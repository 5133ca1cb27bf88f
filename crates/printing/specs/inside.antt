-- Bytes at a place of a buffer.
-- Inside: no claim reaches these definitions; a reader of the claims need not believe them.
pub mod Printing
