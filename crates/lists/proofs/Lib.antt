-- Laws of lists.
pub mod Copies
pub mod Entries
pub mod Front
pub mod SameBytes
pub mod Tables
pub mod Tests
pub mod Totals
pub mod Writes
