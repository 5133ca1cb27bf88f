-- The entry with a record, by the entries' heads alone, in any bytes: it need not be a register.
-- Assumes nothing.
use Rattle.std.specs.Prelude.{cond, List, ℕ, zero, suc, length, drop}
use Rattle.std.proofs.Math.Option.{Option, none, some}
use Rattle.lists.specs.SameBytes.{same_bytes}
use Rattle.registers.specs.Format.{first_size}
use Rattle.registers.specs.Reading.{entry_size, entry_stands, number_in, record_in}

-- The number of the first of at most k entries whose record is these bytes.
unfoldable pub find_in : ℕ → (s bytes : List ℕ) → Option ℕ
find_in zero s bytes = none
find_in (suc k) s bytes =
    cond (entry_stands s)
    (cond (same_bytes (record_in s) bytes) (some (number_in s)) (find_in k (drop (entry_size s) s) bytes))
    none

-- From behind the first field on.
abbrev pub found : (s bytes : List ℕ) → Option ℕ
found s bytes = find_in (length s) (drop first_size s) bytes
