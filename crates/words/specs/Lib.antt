-- Word to record.
pub mod Recording
-- what no claim reaches
pub mod inside
