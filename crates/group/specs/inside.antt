-- Powers that are held in lists of numbers.
-- Inside: no claim reaches these definitions; a reader of the claims need not believe them.
pub mod PowerLists
