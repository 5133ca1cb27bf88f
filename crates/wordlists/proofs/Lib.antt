-- Laws of lists of words.
pub mod Lines
pub mod Items
pub mod Sizes
pub mod Tables
-- the loop over the lines
pub mod Putting
