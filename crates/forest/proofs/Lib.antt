-- Laws of the engine.

-- the model: rows are forms, no reducing step applies in the row of a word, tips are levels
pub mod Levels
pub mod Irreducible
pub mod ReadOff
pub mod Counting
-- the row with a cursor
pub mod Cursor
pub mod CursorBounds
-- the row as it is stored, and the loop over the letters
pub mod Stored
pub mod Joining
pub mod Moving
pub mod Running
pub mod Piled
-- powers on the stored row, and the loop over them
pub mod Seeking
pub mod PowerTurns
pub mod PowersFrom
pub mod RunPowers
pub mod HighTips
-- the tips read off
pub mod Descent
pub mod Zeroing
pub mod Reading
-- the tables at exit
pub mod WordFits
pub mod RowTips
pub mod Filled
-- the same of powers: what is tested, and the own tables handed over
pub mod Fitting
pub mod HandedOver
