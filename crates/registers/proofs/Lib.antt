-- Laws of the register.

-- counts of entries; the sum of the holders' live entries
pub mod Counts
pub mod Sums
-- stored records; a register that was stored is read back; what is read was written
pub mod StoredRecords
pub mod ReadBack
pub mod Written
-- the tests are the paper's sentences
pub mod WellFormed
-- the search in a well-formed register
pub mod Finding
-- heads of entries; the search; fingerprints
pub mod EntryHeads
pub mod Searching
pub mod Printing
-- the tests of one entry, the answers
pub mod Fitting
pub mod Summing
-- the pass over the entries
pub mod Following
pub mod Before
pub mod Rests
pub mod MayFollow
pub mod Turns
pub mod PassTurns
