-- The reduced form's clause.
pub mod Clause
-- what no claim reaches
pub mod inside
