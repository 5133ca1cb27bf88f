-- The receipts of an input that comes in parts.
pub mod Serving
pub mod Promises
-- what no claim reaches
pub mod inside
