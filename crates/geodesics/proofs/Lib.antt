-- Fordham's length is the least number of letters.

-- the sum of Table 1 over columns
pub mod Columns
pub mod ColumnSums
-- rows of labels by two counters
pub mod Rows
pub mod Splits
pub mod Choices
-- a letter put behind two lists of exponents
pub mod Sides
pub mod Changes
pub mod Lowered
pub mod LetterChanges
pub mod LetterLowers
pub mod Enough
pub mod SameRows
pub mod SideLengths
-- Fordham's sum and that of Table 1
pub mod TwoTables
pub mod TreeRows
pub mod RowLabels
pub mod Fordham
pub mod LabelSums
pub mod CaretBound
-- a letter put behind a form
pub mod ListProducts
pub mod Behind
-- words
pub mod WordLengths
pub mod ShortestWords
