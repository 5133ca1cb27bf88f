-- The powers of a text and of two tables, and what the private functions ask and promise of them.
-- Inside: no claim reaches these definitions; a reader of the claims need not believe them.
pub mod Products
pub mod Held
pub mod Ranges
pub mod Tables
