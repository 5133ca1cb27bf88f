-- What `feed` takes of a part, the bytes of a line kept in a buffer, and line feeds counted: the contracts of calls
-- inside the library.
-- Inside: no claim reaches these definitions; a reader of the claims need not believe them.
pub mod Taking
pub mod Keeping
pub mod Counting
