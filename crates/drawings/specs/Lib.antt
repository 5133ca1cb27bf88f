-- Pictures of records.
pub mod Pictures
-- what no claim reaches
pub mod inside
