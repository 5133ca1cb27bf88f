-- Laws of the answers.
pub mod Codes
