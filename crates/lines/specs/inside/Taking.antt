-- What `feed` takes of a part: the contract of a call inside the library.
-- Inside: no claim reaches these definitions; a reader of the claims need not believe them. Assumes nothing.
use Rattle.std.specs.Prelude.{◌≡◌, true, false, cond, List, [], ◌∷◌, ℕ, ◌+◌, eqb}
use Rattle.lines.specs.Lines.{line_feed}
use Rattle.lines.specs.declared.Fed.{Fed}
use Rattle.lines.specs.Feeding.{kept_line, kept_count}

-- What is left of a part of an input: the buffer, and what `feed` answers.
pub record Took : Type 0 where
  pub line : List ℕ
  pub fed : Fed

-- The bytes s, which begin at the place i: those up to and with the first line feed are taken, or all.
unfoldable pub take_line : (s : List ℕ) (i : ℕ) (line : List ℕ) (held : ℕ) → Took
take_line [] i line held = record { line = line; fed = record { next = i; held = held; ended = false } }
take_line (x ∷ s) i line held =
    cond (eqb x line_feed) (record { line = line; fed = record { next = i + 1; held = held; ended = true } })
    (take_line s (i + 1) (kept_line line held x) (kept_count line held))

-- The contract of `feed`.
pub record TookLine (s : List ℕ) (i : ℕ) (line : List ℕ) (held : ℕ) (line' : List ℕ) (r : Fed) : Type 0 where
  pub leaves : line' ≡ (take_line s i line held).line
  pub result : r ≡ (take_line s i line held).fed
