-- Laws of decimal numerals.
pub mod Decimals
pub mod Values
pub mod Numerals
pub mod Prefixes
