-- What a measure of tables answers.
-- Inside: no claim reaches these definitions; a reader of the claims need not believe them. Assumes nothing.
use Rattle.std.specs.Prelude.{◌≡◌, List, ℕ, Option}
use denote.Ref.{Bor}
use Rattle.lengths.specs.inside.Contracts.{length_of, table_length}

-- The answer on two tables is their length.
abbrev pub GivesLength : (Bor (List ℕ) → Bor (List ℕ) → Option ℕ → Type 0) → Type 0
GivesLength gives = (b a : Bor (List ℕ)) (r : Option ℕ) → gives b a r → length_of r ≡ table_length b.now a.now
