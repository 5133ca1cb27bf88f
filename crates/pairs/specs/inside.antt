-- The answers of the calls below, passed on.
-- Inside: no claim reaches these definitions; a reader of the claims need not believe them.
pub mod Passing
