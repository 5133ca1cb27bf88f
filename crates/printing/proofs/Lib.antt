-- Laws of bytes put at a place of a buffer: loops that write, and whether the bytes fit.
pub mod Loops
pub mod Fitting
