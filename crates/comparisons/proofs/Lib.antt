-- Laws of two words.
pub mod Compared
pub mod Verdicts
