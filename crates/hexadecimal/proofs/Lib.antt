-- Laws of hexadecimal that is read, each file after those it cites.
pub mod Turns
pub mod Parts
