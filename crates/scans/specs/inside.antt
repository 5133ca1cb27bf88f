-- The steps of the scan.
-- Inside: no claim reaches these definitions; a reader of the claims need not believe them.
pub mod Steps
