-- The table of spans, and what is promised of the functions on it.
-- Inside: no claim reaches these definitions; a reader of the claims need not believe them.
pub mod Tables
