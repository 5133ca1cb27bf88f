-- The theory of a form's spelling, each file after those it cites. The main theorems are in Words.

-- the runs of a form; numbers of letters
pub mod Runs
pub mod Lengths
-- the letters of a form and the word of its runs leave one freely reduced word
pub mod Turns
pub mod Powers
-- the word of a reduced form's runs is freely reduced
pub mod Parted
pub mod NoPairs
pub mod Words
-- the speller: letters written, the state behind runs, its size, loops over a table, runs written, two tables
pub mod Letters
pub mod Behind
pub mod Sizes
pub mod Rest
pub mod WrittenRuns
pub mod Tables
-- record to word
pub mod Answers
