-- Laws of the record writer: its loops and its answers.
pub mod WriteLoops
pub mod WriteAnswers
