-- Laws of filings.

-- how elements enter; one more entry; room for it; its bytes; its charge
pub mod StoredForms
pub mod Following
pub mod Fitting
pub mod OnlyNew
pub mod Charging
-- runs of filings
pub mod History
pub mod SameEntry
-- the record that a word's filing is decided on; what is decided; an account read
pub mod OwnRecords
pub mod Settling
pub mod Decisions
pub mod AccountReads
-- what is written, and the whole
pub mod Putting
pub mod Committing
pub mod Enterings
