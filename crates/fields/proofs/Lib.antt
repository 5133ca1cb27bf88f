-- Laws of fields.

-- numbers and fields, written and read back
pub mod Numbers
pub mod FieldsAt
pub mod RoundTrip
-- what is written at the front of a buffer
pub mod Putting
