-- The definitions of the length, each file after those it cites.
pub mod Classes
pub mod Kinds
pub mod Weights
pub mod Labels
-- what no claim reaches
pub mod inside
