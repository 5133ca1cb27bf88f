-- The receipts of lines.
pub mod Receipts
-- what no claim reaches
pub mod inside
