-- Words entered into a register: the holder's account, one filing, runs of filings.
pub mod Accounts
pub mod Entering
pub mod History
-- what no claim reaches
pub mod inside
