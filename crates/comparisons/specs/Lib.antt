-- Two words.
pub mod Comparing
