-- Digits as a reader of bytes meets them.
-- Inside: no claim reaches these definitions; a reader of the claims need not believe them.
pub mod Reading
