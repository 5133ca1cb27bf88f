-- Bytes appended at a place of a buffer.
--     beyond                             the place behind a text that does not fit
--     Appended bytes entry at exit end   what the buffer holds then, and the place behind the bytes
-- Inside: no claim reaches these definitions; a reader of the claims need not believe them. Assumes nothing.
use Rattle.std.specs.Prelude.{◌≡◌, List, ℕ, ◌+◌, ◌<◌, ◌≤◌, length}
use Rattle.lists.specs.inside.Writes.{Wrote}

-- The highest number of 64 bits.
abbrev pub beyond : ℕ
beyond = 18446744073709551615

-- Bytes that fit stand at the place, and nothing else was written; where they do not, the answer is `beyond`, and what
-- stands behind the place is open. (A buffer of as many bytes as `beyond` would leave the two cases in doubt.)
pub record Appended (bytes entry : List ℕ) (at : ℕ) (exit : List ℕ) (end : ℕ) : Type 0 where
  pub size : length exit ≡ length entry
  pub fits : at + length bytes ≤ length entry → Wrote bytes entry at exit end
  pub over : length entry < beyond → length entry < at + length bytes → end ≡ beyond
