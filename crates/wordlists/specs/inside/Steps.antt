-- The steps of the list call, for the functions inside this crate. Assumes nothing.
use Rattle.std.specs.Prelude.{◌≡◌, List, ℕ, ◌≤◌, ◌<◌, length}
use Rattle.lists.specs.inside.Writes.{Wrote}
use Rattle.lines.specs.Lines.{lines_of}
use Rattle.group.specs.Forms.{b_side, a_side}
use Rattle.group.specs.Limits.{limit}
use Rattle.records.specs.Format.{buffer_size}
use Rattle.letters.specs.Judging.{line_read}
use Rattle.forest.specs.Filling.{table_after}
use Rattle.refusals.specs.Memory.{Memory}
use Rattle.wordlists.specs.Items.{item, items, list_size, tables_then}

-- The bytes of the item of a refused word.
abbrev pub item_size : ℕ
item_size = 6

-- The tables are long enough for every word.
pub record LongTables (m : Memory) : Type 0 where
  pub b_long : limit < length m.b
  pub a_long : limit < length m.a

-- There is room for the item of a line at the front of the output.
pub record ItemRoom (line : List ℕ) (m : Memory) : Type 0 where
  pub tables : LongTables m
  pub roomy : buffer_size (length line) ≤ length m.buffer

-- The item of a line was put at the front of the output, and the tables are as the word's call leaves them.
pub record ItemPut (line : List ℕ) (entry exit : Memory) (end : ℕ) : Type 0 where
  pub b_table : exit.b ≡ table_after b_side (line_read line) entry.b
  pub a_table : exit.a ≡ table_after a_side (line_read line) entry.a
  pub bytes : Wrote (item (line_read line)) entry.buffer 0 exit.buffer end

-- There is room for the items of all lines.
pub record ListRoom (list : List ℕ) (m : Memory) : Type 0 where
  pub tables : LongTables m
  pub roomy : list_size (lines_of list) ≤ length m.buffer

-- The items of all lines were put at the front of the output, and the tables are as the words' calls leave them.
pub record ItemsPut (list : List ℕ) (entry exit : Memory) (end : ℕ) : Type 0 where
  pub b_table : exit.b ≡ tables_then b_side (lines_of list) entry.b
  pub a_table : exit.a ≡ tables_then a_side (lines_of list) entry.a
  pub bytes : Wrote (items (lines_of list)) entry.buffer 0 exit.buffer end
