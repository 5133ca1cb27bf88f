-- The record: its format, its reading, the paper's sentences on it, and its exchange.
pub mod Format
pub mod Reading
pub mod Faults
pub mod Checking
pub mod Exchange
-- what no claim reaches
pub mod inside
