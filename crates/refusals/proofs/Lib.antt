-- Laws of outcomes, of what an answer holds, and of calls that write at the front of a buffer.
pub mod Outcomes
pub mod Answered
pub mod Placing
