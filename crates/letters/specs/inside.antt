-- The scan for a byte that is no letter.
-- Inside: no claim reaches these definitions; a reader of the claims need not believe them.
pub mod Scanning
