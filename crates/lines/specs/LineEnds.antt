-- Where a line ends (01, 'The receipt program'; 02, [4]): at the first byte 0A hex, or behind the last byte where
-- there is none.
--     until_feed s   the bytes in front of the first line feed     line_end_value s from   the end of the line begun at `from`
-- Assumes nothing.
use Rattle.std.specs.Prelude.{cond, List, [], ◌∷◌, ℕ, suc, ◌+◌, eqb, drop}
use Rattle.lines.specs.Lines.{line_feed}

-- How many bytes stand in front of the first line feed: all of them, where there is none.
unfoldable pub until_feed : List ℕ → ℕ
until_feed [] = 0
until_feed (x ∷ s) = cond (eqb x line_feed) 0 (suc (until_feed s))

-- The place of the first line feed from a place on, or the end; the place itself, where it is beyond the end.
abbrev pub line_end_value : (s : List ℕ) (from : ℕ) → ℕ
line_end_value s from = from + until_feed (drop from s)
