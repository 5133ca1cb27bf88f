-- Laws of copied tables.
pub mod Copying
