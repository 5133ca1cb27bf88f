-- The shape writer's terms, the steps of the functions, known zeros, how N is counted, and the reading of shapes.
-- Inside: no claim reaches these definitions; a reader of the claims need not believe them.
pub mod Writing
pub mod Steps
pub mod Zeros
pub mod Counting
pub mod ShapeReading
