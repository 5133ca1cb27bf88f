-- Laws of tokens and texts.
pub mod Spaces
pub mod TokenTexts
pub mod Texts
pub mod Pieces
pub mod Misspelled
pub mod Readings
-- the steps of the reader: the parts of a token, the powers in the arrays, the text
pub mod DigitRuns
pub mod TokenEnds
pub mod TokenParts
pub mod Stored
pub mod TextSteps
