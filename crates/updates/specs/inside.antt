-- The steps of a filing: what is decided, and what is written.
-- Inside: no claim reaches these definitions; a reader of the claims need not believe them.
pub mod Steps
