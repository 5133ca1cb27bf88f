-- A line that is kept in a buffer, byte by byte (01, 'The receipt program'): the first bytes, as many as there is room
-- for, are held. A line is thus cut to the size of the buffer, and a line of any length needs no more memory.
--     meet_lines s line held   the lines that end in a part; met_in: in the parts of an input, with an unended last line
-- Assumes nothing.
use Rattle.std.specs.Prelude.{cond, List, [], ◌∷◌, ◌++◌, ℕ, ◌+◌, length, set, take, eqb, ltb}
use Rattle.lines.specs.Lines.{line_feed, last_line}

-- The buffer with one more byte of the line, where there is room.
abbrev pub kept_line : (line : List ℕ) (held x : ℕ) → List ℕ
kept_line line held x = cond (ltb held (length line)) (set line held x) line

-- How many bytes are then held.
abbrev pub kept_count : (line : List ℕ) (held : ℕ) → ℕ
kept_count line held = cond (ltb held (length line)) (held + 1) held

-- The lines that ended, as they were held, and behind them the buffer and the count of the line that has begun.
pub record Met : Type 0 where
  pub lines : List (List ℕ)
  pub line : List ℕ
  pub held : ℕ

-- A line in front of the others.
abbrev pub line_then : List ℕ → Met → Met
line_then l m = record { lines = l ∷ m.lines; line = m.line; held = m.held }

-- The bytes are taken: at a line feed the bytes that are held are a line, any other byte is kept.
unfoldable pub meet_lines : (s line : List ℕ) (held : ℕ) → Met
meet_lines [] line held = record { lines = []; line = line; held = held }
meet_lines (x ∷ s) line held =
    cond (eqb x line_feed) (line_then (take held line) (meet_lines s line 0))
    (meet_lines s (kept_line line held x) (kept_count line held))

-- The lines that are met in the parts of an input, each part from what the one before left, and the unended last line.
abbrev pub met_in : (parts : List (List ℕ)) (line : List ℕ) (held : ℕ) → List (List ℕ)
met_in [] line held = last_line (take held line)
met_in (part ∷ parts) line held =
    (meet_lines part line held).lines ++ met_in parts (meet_lines part line held).line (meet_lines part line held).held
