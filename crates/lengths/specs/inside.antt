-- The classes read from a shape, the contracts of the calls inside the library, and the steps of the functions.
-- Inside: no claim reaches these definitions; a reader of the claims need not believe them.
pub mod Reading
pub mod Contracts
pub mod Steps
