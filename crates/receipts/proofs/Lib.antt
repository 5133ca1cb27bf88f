-- Laws of the receipts, each file after those it cites.

-- an input in parts: parts one behind another, one call of `feed`, the receipts of lines
pub mod Parts
pub mod Turns
pub mod Lines
pub mod Meets
-- the calls: how many bytes the receipts of a part have, what the calls leave, their steps and answers
pub mod Bounds
pub mod Calls
pub mod Rooms
pub mod Placing
pub mod Serves
pub mod Answers
