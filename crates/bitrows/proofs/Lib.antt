-- Laws of nodes in numbers, and of the walk over them.

-- numbers, their bits and their ones
pub mod Masks
pub mod Numbers
pub mod Bits
pub mod NodeLists
-- the walk
pub mod Walks
pub mod Leaving
pub mod ByteTables
pub mod Passing
pub mod Along
-- two nodes put in front of others
pub mod Shifts
pub mod Opens
pub mod Inserting
pub mod Carrying
pub mod Finding
pub mod Searching
