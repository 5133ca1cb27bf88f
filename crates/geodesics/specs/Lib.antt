-- The rows of two counters; Table 1 and its sum.
pub mod Rows
pub mod Table1
-- what no claim reaches
pub mod inside
