-- The sum of Table 1 over rows.
-- Inside: no claim reaches these definitions; a reader of the claims need not believe them.
pub mod Costs
