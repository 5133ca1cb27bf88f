-- The contract of the reader of tables, on every input. Assumes nothing.
use Rattle.std.specs.Prelude.{List, ℕ, ⊤, Result}
use Rattle.refusals.specs.declared.Refusal.{Refusal}
use Rattle.records.specs.Reading.{decode}
use Rattle.clause.specs.inside.Tables.{ReadInto}
use Rattle.fields.specs.Fields.{Bytes as AreBytes}

-- The exponents of a record were written into the two tables: 3, 4 and 5, then 6. What is lent as a record are bytes.
pub record Decoded (s b a b' a' : List ℕ) (r : Result ⊤ Refusal) : Type 0 where
  pub are_bytes : AreBytes s
  pub reads : ReadInto (decode s) b a b' a' r
