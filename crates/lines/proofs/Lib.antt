-- Laws of lines, of their ends, and of lines that are kept in a buffer.
pub mod Feeding
pub mod Lines
pub mod Counts
pub mod UntilFeed
pub mod LineEnds
pub mod BlockTests
pub mod KeptBytes
pub mod Taking
pub mod Holding
pub mod Meeting
