-- Laws of the calls.
pub mod Tables
pub mod Answers
