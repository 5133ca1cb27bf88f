-- The answers of the exported calls.
pub mod Codes
