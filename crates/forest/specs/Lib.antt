-- The engine.

-- the contracts of its calls
pub mod Filling
-- what no claim reaches
pub mod inside
