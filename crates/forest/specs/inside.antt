-- The row of bushes, how it is stored, what the private functions promise, and the contract of the engine.
-- Inside: no claim reaches these definitions; a reader of the claims need not believe them.
pub mod Forest
pub mod Cursor
pub mod Cells
pub mod Moves
pub mod Seeking
pub mod Leaves
pub mod Filling
pub mod FillingPowers
pub mod Handing
