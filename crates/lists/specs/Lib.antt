-- Definitions on lists.
pub mod Copies
pub mod Entries
pub mod Tables
pub mod SameBytes
-- what no claim reaches
pub mod inside
