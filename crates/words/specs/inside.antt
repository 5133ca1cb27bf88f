-- What the private functions ask and promise of words that are written.
-- Inside: no claim reaches these definitions; a reader of the claims need not believe them.
pub mod Writing
pub mod Lending
