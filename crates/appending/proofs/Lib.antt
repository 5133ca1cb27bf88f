-- Laws of text that is appended, and of hexadecimal digits.
pub mod Hex
pub mod Appending
