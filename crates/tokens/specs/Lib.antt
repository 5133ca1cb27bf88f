-- Subscript notation: tokens, texts, and what a text is read as.
pub mod Tokens
pub mod Texts
pub mod Reading
-- what no claim reaches
pub mod inside
