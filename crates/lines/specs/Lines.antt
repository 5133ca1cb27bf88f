-- The lines of bytes (01, 'The receipt program'): each line is ended by byte 0A hex; an unended last line counts,
-- unless it is empty; no bytes are no lines.
--     lines_of s   the lines of the bytes s          cut_to m ls   the lines, each cut to its first m bytes
--     whole_of ps  the parts of an input, one behind another
-- Assumes nothing.
use Rattle.std.specs.Prelude.{cond, List, [], ◌∷◌, ◌++◌, ℕ, ◌+◌, length, take, eqb}

-- 0A hex
abbrev pub line_feed : ℕ
line_feed = 10

-- The unended last line: none, where nothing stands behind the last line feed.
abbrev pub last_line : List ℕ → List (List ℕ)
last_line [] = []
last_line (x ∷ l) = (x ∷ l) ∷ []

-- The lines of the bytes s, where the line l has begun in front of them.
unfoldable pub lines_from : (l s : List ℕ) → List (List ℕ)
lines_from l [] = last_line l
lines_from l (x ∷ s) = cond (eqb x line_feed) (l ∷ lines_from [] s) (lines_from (l ++ (x ∷ [])) s)

-- The lines of the bytes.
abbrev pub lines_of : List ℕ → List (List ℕ)
lines_of s = lines_from [] s

-- Each line cut to its first m bytes.
abbrev pub cut_to : ℕ → List (List ℕ) → List (List ℕ)
cut_to m [] = []
cut_to m (l ∷ ls) = take m l ∷ cut_to m ls

-- Each line with its line feed, one behind another.
abbrev pub join_lines : List (List ℕ) → List ℕ
join_lines [] = []
join_lines (l ∷ ls) = l ++ (line_feed ∷ join_lines ls)

-- The bytes of all lines, line ends left out.
abbrev pub line_bytes : List (List ℕ) → ℕ
line_bytes [] = 0
line_bytes (l ∷ ls) = length l + line_bytes ls

-- The parts of an input, one behind another.
abbrev pub whole_of : List (List ℕ) → List ℕ
whole_of [] = []
whole_of (part ∷ parts) = part ++ whole_of parts
