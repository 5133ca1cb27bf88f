-- The steps of the receipt writer, for the functions inside this crate. Assumes nothing.
use Rattle.std.specs.Prelude.{◌≡◌, List, [], ◌∷◌, ◌++◌, ℕ, ◌+◌, ◌*◌}
use Rattle.refusals.specs.Outcomes.{Outcome, accepted, refused}
use Rattle.trees.specs.inside.Writing.{table_carets}
use Rattle.lengths.specs.inside.Contracts.{table_length}
use Rattle.numerals.specs.Decimals.{decimal}
use Rattle.appending.specs.Hexadecimal.{hex_of}
use Rattle.rows.specs.Receipts.{join_fields}

-- The value of an outcome; 0 where there is none.
abbrev pub value_in : Outcome ℕ → ℕ
value_in (accepted n) = n
value_in (refused number place) = 0

-- Two tables that have carets and a length.
pub record Measured (b a : List ℕ) : Type 0 where
  pub carets : ℕ
  pub least : ℕ
  pub carets_found : table_carets b a ≡ accepted carets
  pub length_found : table_length b a ≡ accepted least

-- A number and the byte behind it.
abbrev pub number_then : (n behind : ℕ) → List ℕ
number_then n behind = decimal n ++ (behind ∷ [])

-- The most bytes of a 64-bit number and the byte behind it: 20 digits and one.
abbrev pub number_size : ℕ
number_size = 21

-- Four numbers, a space behind each.
abbrev pub four_numbers : (k l m n : ℕ) → List ℕ
four_numbers k l m n = number_then k 32 ++ (number_then l 32 ++ (number_then m 32 ++ number_then n 32))

-- The most bytes of four numbers, a space behind each.
abbrev pub numbers_size : ℕ
numbers_size = 4 * number_size

-- The most bytes of the receipt of a refusal: three numbers, and `refused` with a space.
abbrev pub refusal_size : ℕ
refusal_size = 3 * number_size + 8

-- The receipt of a record with four numbers.
abbrev pub record_row : (k l m n : ℕ) (bytes : List ℕ) → List ℕ
record_row k l m n bytes = join_fields (decimal k ∷ decimal l ∷ decimal m ∷ decimal n ∷ hex_of bytes ∷ [])

-- The receipt of two tables and a record.
abbrev pub tables_row : (number letters : ℕ) (b a bytes : List ℕ) → List ℕ
tables_row number letters b a bytes =
    record_row number letters (value_in (table_carets b a)) (value_in (table_length b a)) bytes
