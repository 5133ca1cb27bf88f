-- Laws of growing a caret in a packed shape.
pub mod LeafSteps
pub mod GrowSteps
pub mod GrowAnswers
