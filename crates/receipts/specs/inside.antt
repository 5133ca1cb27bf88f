-- What the function inside promises of a part.
-- Inside: no claim reaches these definitions; a reader of the claims need not believe them.
pub mod Taking
