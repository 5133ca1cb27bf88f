-- What is promised of a text that is appended.
-- Inside: no claim reaches these definitions; a reader of the claims need not believe them.
pub mod Appending
