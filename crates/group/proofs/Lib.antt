-- The theorems of the group, each file after those it cites. The main ones are in Theorems.

-- chains as a congruence; inverses; derivations checked by free reduction; freely reduced words; deletions
pub mod Congruence
pub mod Inverses
pub mod FreeReduction
pub mod FreeWords
pub mod Deletions
-- the shift x_k to x_(k+1); the generators; both presentations
pub mod Shift
pub mod Generators
pub mod Presentations
-- forms by exponents and by levels; a letter times a form
pub mod Exponents
pub mod UpTo
pub mod Levels
pub mod Products
pub mod Reduced
pub mod LevelProducts
-- maps on inner points, on digits, of joined words and of forms
pub mod Inner
pub mod Values
pub mod Digits
pub mod Actions
-- uniqueness, and what follows for words
pub mod Slope
pub mod Unique
pub mod Theorems
-- reducing steps; inverses; sizes
pub mod Reducing
pub mod NoStep
pub mod ReducingEnds
pub mod Exchange
pub mod Sizes
-- powers of generators in front of a word
pub mod Powers
-- words as bytes; what the limit has to stay below
pub mod Bytes
pub mod Limits
