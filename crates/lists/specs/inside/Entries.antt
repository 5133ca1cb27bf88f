-- Lists with the same entries.
-- Inside: no claim reaches these definitions; a reader of the claims need not believe them. Assumes nothing.
use Rattle.std.specs.Prelude.{◌≡◌, List, ℕ, get_or}

-- The same entry at every place, where zeros stand behind the last.
abbrev pub SameEntries : List ℕ → List ℕ → Type 0
SameEntries xs ys = (i : ℕ) → get_or xs i 0 ≡ get_or ys i 0
