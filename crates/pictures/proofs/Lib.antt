-- Laws of the pictures.

-- text in pieces
pub mod Pieces
pub mod Filling
-- spans in a table, and the classes and kinds of their carets
pub mod Tables
pub mod SpanClasses
pub mod Reading
-- the text of carets
pub mod Carets
-- cells, digits and kinds in characters
pub mod Cells
pub mod LeafDigits
pub mod KindLines
-- the table of a tree
pub mod TreeTables
