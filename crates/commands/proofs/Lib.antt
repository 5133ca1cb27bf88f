-- Laws of the answers, each file after those it cites.
pub mod Closing
pub mod Replying
pub mod ShapeDigits
pub mod Fronts
pub mod PairAnswers
pub mod LineAnswers
pub mod TwoWords
pub mod ReadAnswers
pub mod LongRecords
pub mod LineParts
