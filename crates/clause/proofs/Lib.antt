-- Laws of the clause on tables, and of tables handed over.
pub mod Breaks
pub mod Handing
