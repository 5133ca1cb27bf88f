-- The steps of the pass over a register's entries: fingerprints of records, the tests of one entry.
--     fingerprint s      a number of a record's bytes          is_new_value           no entry before has the record
--     entry_fits          the tests of the entry at a place     Prepared        what the pass starts from
-- Inside: no claim reaches these definitions; a reader of the claims need not believe them. Assumes nothing.
use Rattle.std.specs.Prelude.{◌≡◌, Bool, true, false, cond, List, ℕ, ◌+◌, ◌*◌, ◌/◌, ◌%◌, ◌≤◌, length, get_or, drop}
use Rattle.std.specs.Prelude.{set, fold, ltb}
use Rattle.std.proofs.Math.Option.{Option as Maybe, none, some}
use Rattle.std.specs.Prelude.{Option, Some, None}
use Rattle.refusals.specs.Outcomes.{Outcome, accepted, refused}
use Rattle.clause.specs.Clause.{both}
use Rattle.fields.specs.Fields.{two_at, four_at_value, head_size}
use Rattle.registers.specs.declared.Heading.{Heading}
use Rattle.registers.specs.Format.{live_most, entry_base}
use Rattle.registers.specs.Reading.{first_stands, number_in, holder_in, record_in, stored_in}
use Rattle.registers.specs.Finding.{found}
use Rattle.registers.specs.Answers.{heading_of}

-- The first field's number, where it stands.
abbrev pub first_of : List ℕ → Option ℕ
first_of s = cond (first_stands s) (Some (four_at_value s head_size)) None

-- A fingerprint: any function of the bytes would do.
abbrev pub print_step : ℕ → ℕ → ℕ
print_step x b = (x * 16777619 % 4294967296 + (b + 1)) % 4294967296

abbrev pub fingerprint : List ℕ → ℕ
fingerprint s = fold print_step 0 s

-- One table has an entry for each number of two bytes: how many entries have it for their holder, and 8 more, a mark,
-- where it is the low or the high half of a fingerprint.
abbrev pub table_size : ℕ
table_size = 65536

abbrev pub mark : ℕ
mark = 8

-- The two places of a fingerprint.
abbrev pub low_place_value : ℕ → ℕ
low_place_value x = x % table_size

abbrev pub high_place_value : ℕ → ℕ
high_place_value x = x / table_size

-- The count of a holder.
abbrev pub count_at : List ℕ → ℕ → ℕ
count_at table h = get_or table h 0 % mark

-- A reading accepts.
abbrev pub accepts : {A : Type 0} → Outcome A → Bool
accepts (accepted x) = true
accepts (refused number place) = false

-- What is found has a number above `low`.
abbrev pub found_above : ℕ → Maybe ℕ → Bool
found_above low none = true
found_above low (some k) = ltb low k

-- No entry with a number up to `low` has the record: tested only where both places of its fingerprint are marked.
abbrev pub is_new_value : (s bytes table : List ℕ) (low : ℕ) → Bool
is_new_value s bytes table low =
    cond (ltb (get_or table (low_place_value (fingerprint bytes)) 0) mark) true
    (cond (ltb (get_or table (high_place_value (fingerprint bytes)) 0) mark) true (found_above low (found s bytes)))

-- An entry's field stands at a place, with a body of n bytes.
pub record Headed (s : List ℕ) (at n : ℕ) : Type 0 where
  pub size : n ≡ two_at (drop at s) 1
  pub base : entry_base ≤ n
  pub room : at + head_size + n ≤ length s

-- The table with a mark at a place; with those of a fingerprint.
abbrev pub marked_at : ℕ → List ℕ → List ℕ
marked_at i table = set table i (count_at table i + mark)

abbrev pub marked : ℕ → List ℕ → List ℕ
marked x table = marked_at (high_place_value x) (marked_at (low_place_value x) table)

-- What the pass starts from: the first field stands, with a number.
pub record FirstStands (s : List ℕ) (last : ℕ) : Type 0 where
  pub stands : first_stands s ≡ true
  pub number : last ≡ four_at_value s head_size

-- And a table that counts nothing.
pub record Prepared (s : List ℕ) (last : ℕ) (table : List ℕ) : Type 0 where
  pub first : FirstStands s last
  pub long : length table ≡ table_size
  pub empty : (h : ℕ) → get_or table h 0 ≡ 0

-- The head of the entry that stands at a place, and the fingerprint of its record.
pub record EntryHead (s : List ℕ) (at : ℕ) (h : Heading) (x : ℕ) : Type 0 where
  pub stands : Headed s at (two_at (drop at s) 1)
  pub head : h ≡ heading_of (drop at s) at
  pub print : x ≡ fingerprint (record_in (drop at s))

-- The entry at a place, against those before it: by the table that those left, and their last number.
abbrev pub entry_fits : (s : List ℕ) (at low : ℕ) (table : List ℕ) → Bool
entry_fits s at low table =
    both (ltb low (number_in (drop at s)))
    (both (accepts (stored_in (record_in (drop at s))))
    (both (ltb (count_at table (holder_in (drop at s))) live_most) (is_new_value s (record_in (drop at s)) table low)))
