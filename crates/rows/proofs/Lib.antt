-- Laws of the receipt of a line, each file after those it cites.

-- the fields of a row
pub mod Fields
-- the receipt of a line: what the line is read as, the tables of a word, what the call leaves
pub mod LineReads
pub mod WordTables
pub mod LineReceipts
-- how many bytes it has
pub mod WordSizes
pub mod Sizes
pub mod Rooms
pub mod Measures
