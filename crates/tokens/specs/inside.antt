-- The contracts of the reader of texts and of its parts, and the parts of a text as a reader meets them.
-- Inside: no claim reaches these definitions; a reader of the claims need not believe them.
pub mod Arrays
pub mod Ends
-- the parts of a token; a token, and its power in the arrays
pub mod Spelling
pub mod Keeping
