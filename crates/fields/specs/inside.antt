-- A field read at a place, and written at the front of a buffer.
-- Inside: no claim reaches these definitions; a reader of the claims need not believe them.
pub mod Reading
pub mod Writing
