-- Hexadecimal read into bytes, also from characters that come in parts.
pub mod Hexadecimal
pub mod Taking
