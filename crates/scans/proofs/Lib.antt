-- Laws of the scan.

-- Table 1 as the constant of the code has it, and columns added to a tally
pub mod Constant
pub mod Tallies
-- carets with no exponent behind them
pub mod Stretches
-- amid the scan
pub mod Amids
pub mod Reaching
-- the sum over all columns is Fordham's length
pub mod TableLengths
-- the steps of the functions
pub mod Loops
pub mod Blocks
pub mod Answers
