-- The register: its format, its reading, what is found in it, and the answers of the calls that read it.
pub mod Format
pub mod Reading
pub mod WellFormed
pub mod Finding
pub mod Answers
-- what no claim reaches
pub mod inside
