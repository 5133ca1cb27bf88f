-- Lines, where they end, and how they are cut from an input that comes in parts.
pub mod Lines
pub mod LineEnds
pub mod Feeding
-- what no claim reaches
pub mod inside
