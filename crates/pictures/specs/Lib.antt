-- The definitions of the pictures, each file after those it cites.
pub mod Spans
pub mod Texts
pub mod Svg
pub mod Characters
-- what no claim reaches
pub mod inside
