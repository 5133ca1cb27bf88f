-- What a function wrote, for the contracts of private functions, and lists with the same entries.
-- Inside: no claim reaches these definitions; a reader of the claims need not believe them.
pub mod Writes
pub mod Entries
