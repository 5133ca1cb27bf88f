-- Laws of the record. The main ones are in ReadBack, Accepted and Refused.

-- the powers of a table; the lengths of records; the tables of a form
pub mod Powers
pub mod Lengths
pub mod WordForms
pub mod FormTables
-- tests; splittings of lists
pub mod Tests
pub mod Splits
-- entries written and read back; the frame; proper powers and their form
pub mod WrittenEntries
pub mod Framing
pub mod ProperPowers
pub mod Levels
pub mod ReadBack
-- scans and faults, the clause, and what a reading comes to
pub mod Scans
pub mod FirstFaults
pub mod RecordFaults
pub mod Clause
pub mod Readings
pub mod Accepted
pub mod Refused
-- the reader's loops and answers
pub mod Frames
pub mod FramedFields
pub mod Scanning
pub mod Fields
pub mod Placing
-- the walk over the entries
pub mod Merging
pub mod MergedForms
pub mod Walks
-- the answers
pub mod Checks
pub mod Decodings
-- the exponents of a record in tables of zeros
pub mod ClearedTables
-- byte order; the record with its sides exchanged
pub mod ByteOrder
pub mod Exchanges
pub mod Sides
pub mod SmallerRecords
pub mod ExchangeAnswers
