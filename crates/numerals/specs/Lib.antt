-- Text as bytes, and decimal numerals.
pub mod Decimals
-- what no claim reaches
pub mod inside
