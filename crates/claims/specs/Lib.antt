-- The demands of the papers as claims: start with Demands.
pub mod Refusals
pub mod Answers
pub mod Calls
pub mod Given
pub mod Demands
pub mod Exports
pub mod Records
pub mod Forms
pub mod Trees
pub mod Lengths
pub mod Spellings
pub mod Texts
pub mod Receipts
pub mod Registers
pub mod Lists
pub mod Packed
pub mod Sentences
