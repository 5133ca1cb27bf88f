-- The definitions of trees, each file after those it cites.
pub mod Trees
pub mod Exponents
pub mod Readings
pub mod Building
pub mod Pairs
pub mod Shapes
-- what no claim reaches
pub mod inside
