-- Laws of words judged: the scan for a byte that is no letter, and the judgement.
pub mod Scanning
pub mod Judged
