-- Tagged fields, and numbers in two and four bytes.
pub mod Fields
-- what no claim reaches
pub mod inside
