-- The steps of the speller, and the letters of runs.
-- Inside: no claim reaches these definitions; a reader of the claims need not believe them.
pub mod Steps
pub mod RunLetters
