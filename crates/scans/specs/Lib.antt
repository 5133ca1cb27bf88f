-- The constant of the code.
pub mod Table
-- what no claim reaches
pub mod inside
