-- What a picture comes to.
-- Inside: no claim reaches these definitions; a reader of the claims need not believe them.
pub mod Ends
