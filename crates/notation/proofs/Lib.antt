-- Laws of the two calls, each file after those it cites.

-- text to record: the powers that arrays hold, and what is answered of them
pub mod HeldPowers
pub mod Products
pub mod TextAnswers
-- record to text: texts, token by token; the powers of tables and of forms
pub mod Texts
pub mod Tables
pub mod Answers
-- the powers of a form are in range
pub mod FormRanges
