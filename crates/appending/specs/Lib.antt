-- Bytes in hexadecimal digits, and text appended to a buffer.
pub mod Hexadecimal
-- what no claim reaches
pub mod inside
