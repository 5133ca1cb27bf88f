-- Laws of word to record.
pub mod Judged
pub mod Written
pub mod Recorded
pub mod Lent
pub mod LineReads
