-- Refusals, outcomes, what is lent, and calls that write at the front of a buffer.
pub mod Refusals
pub mod Outcomes
pub mod Memory
pub mod Placing
