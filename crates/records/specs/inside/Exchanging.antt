-- What the functions on a record and its exchange say of any bytes: those that no two fields frame have no exchange.
-- Inside: no claim reaches these definitions; a reader of the claims need not believe them. Assumes nothing.
use Rattle.std.specs.Prelude.{Bool, cond, List, ℕ, length}
use Rattle.lists.specs.SameBytes.{same_bytes}
use Rattle.refusals.specs.Outcomes.{Outcome, refused}
use Rattle.refusals.specs.Placing.{fitting}
use Rattle.clause.specs.Clause.{both}
use Rattle.records.specs.Reading.{frames}
use Rattle.records.specs.Exchange.{exchanged, is_above, smaller_record}

-- Two fields frame the bytes, and their exchange comes before them.
abbrev pub framed_above : List ℕ → Bool
framed_above s = both (frames s) (is_above s)

-- Two fields frame each of two lists, and the one is the other with its sides exchanged.
abbrev pub is_exchange_value : List ℕ → List ℕ → Bool
is_exchange_value s t = both (frames s) (both (frames t) (same_bytes s (exchanged t)))

-- The smaller of a record and its exchange beside a buffer: 3, then 7.
abbrev pub smaller_in : (s out : List ℕ) → Outcome (List ℕ)
smaller_in s out = cond (frames s) (fitting (length s) (smaller_record s) out) (refused 3 0)
