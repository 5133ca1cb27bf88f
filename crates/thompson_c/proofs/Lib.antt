-- The exports that C links, and that what is demanded of the library's exports is met by them.
pub mod Functions
pub mod Exported
