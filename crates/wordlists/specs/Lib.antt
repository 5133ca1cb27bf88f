-- Lists of words.
pub mod Items
pub mod Listing
-- what no claim reaches
pub mod inside
