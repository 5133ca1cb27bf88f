-- An input that comes in parts: the receipts of the lines that end in a part, and what is kept between two parts: the
-- number of the line that has begun, the buffer of its bytes, and how many of them are held.
--     Amid   what is kept, and the receipts so far         served s k line held   the bytes s are taken, one by one
-- Assumes nothing.
use Rattle.std.specs.Prelude.{ℕ, ◌+◌, ◌*◌, ◌%◌, ◌^◌, cond, List, [], ◌∷◌, ◌++◌, take, ◌==◌}
use Rattle.lines.specs.Lines.{line_feed}
use Rattle.lines.specs.Feeding.{kept_line, kept_count}
use Rattle.group.specs.Limits.{limit}
use Rattle.rows.specs.Receipts.{receipt_of, receipt_size}

-- The bytes of a line that are kept: one more than a word has letters, so that a longer line is seen to be one.
abbrev pub line_size : ℕ
line_size = limit + 1

-- The receipts, and behind them the number of the line that has begun, the buffer and the count of its bytes.
pub record Amid : Type 0 where
  pub receipts : List ℕ
  pub number : ℕ
  pub line : List ℕ
  pub held : ℕ

-- The number of the next line, in 64 bits.
abbrev pub next_number : ℕ → ℕ
next_number number = (number + 1) % 2 ^ 64

-- A receipt in front of the others.
abbrev pub receipt_then : List ℕ → Amid → Amid
receipt_then bytes m =
    record { receipts = bytes ++ m.receipts; number = m.number; line = m.line; held = m.held }

-- The bytes are taken: a line feed gives the receipt of the bytes that are held, any other byte is kept.
unfoldable pub served : (s : List ℕ) (number : ℕ) (line : List ℕ) (held : ℕ) → Amid
served [] number line held = record { receipts = []; number = number; line = line; held = held }
served (x ∷ s) number line held =
    cond (x == line_feed)
    (receipt_then (receipt_of number (take held line)) (served s (next_number number) line 0))
    (served s number (kept_line line held x) (kept_count line held))

-- The bytes that the receipts of a part of n bytes need: every byte may end a line, and a line may have begun before.
abbrev pub part_size : ℕ → ℕ
part_size n = n * receipt_size 0 + 8 * (n + line_size)
