-- The definitions of the group, each file after those it cites.

-- words, free reduction and chains; points and maps
pub mod Letters
pub mod FreeReduction
pub mod Chains
pub mod Points
pub mod Maps
-- forms, the infinite presentation, reducing, products; powers
pub mod Forms
pub mod UpTo
pub mod Presentations
pub mod Reducing
pub mod Products
pub mod Powers
-- the limit; words written as texts and as bytes
pub mod Limits
pub mod Texts
pub mod Bytes
-- what no claim reaches
pub mod inside
