-- The lines of bytes by their line feeds (02, [4]).
-- Inside: no claim reaches these definitions; a reader of the claims need not believe them. Assumes nothing.
use Rattle.std.specs.Prelude.{cond, List, [], ◌∷◌, ℕ, suc, eqb}
use Rattle.lines.specs.Lines.{line_feed}

-- How many bytes are line feeds.
unfoldable pub count_feeds_value : List ℕ → ℕ
count_feeds_value [] = 0
count_feeds_value (x ∷ s) = cond (eqb x line_feed) (suc (count_feeds_value s)) (count_feeds_value s)

-- The last of the bytes, which stand behind the byte d.
abbrev pub last_of : (d : ℕ) → List ℕ → ℕ
last_of d [] = d
last_of d (x ∷ s) = last_of x s

-- The lines that the last byte leaves unended: none where it is a line feed, or there is no byte.
abbrev pub unended_at : ℕ → ℕ
unended_at x = cond (eqb x line_feed) 0 1

-- 1 where the last line is unended.
abbrev pub count_unended_value : List ℕ → ℕ
count_unended_value s = unended_at (last_of line_feed s)
