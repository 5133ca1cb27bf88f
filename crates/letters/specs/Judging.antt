-- What is refused of a word and the tables lent with it: refusals 1, 2 and 6 of 01, 'Who caused the refusal', in this
-- order and with these places; and what a line is read as, which no table is lent with. Assumes nothing.
use Rattle.std.specs.Prelude.{cond, List, ℕ, ◌+◌, length, ltb}
use Rattle.group.specs.Letters.{Word}
use Rattle.group.specs.Bytes.{Reading, is_word, not_letter_is, read_word}
use Rattle.group.specs.Limits.{limit}
use Rattle.refusals.specs.Outcomes.{Outcome, accepted, refused}

-- Each table needs an entry for every index up to the number of letters; `nb` and `na` are the tables' lengths.
abbrev pub judged_reading : Reading → (n nb na : ℕ) → Outcome Word
judged_reading (not_letter_is offset) n nb na = refused 2 offset
judged_reading (is_word w) n nb na =
    cond (ltb nb (n + 1)) (refused 6 0) (cond (ltb na (n + 1)) (refused 6 0) (accepted w))

-- The word that bytes are, beside two tables, or its refusal.
abbrev pub judged : List ℕ → (nb na : ℕ) → Outcome Word
judged s nb na = cond (ltb limit (length s)) (refused 1 limit) (judged_reading (read_word s) (length s) nb na)

-- The word that a line is, or refusal 1 or 2 of it: tables of as many entries as the word asks for are never too short.
abbrev pub line_read : List ℕ → Outcome Word
line_read line = judged line (length line + 1) (length line + 1)
