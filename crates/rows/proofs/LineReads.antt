-- What a line is read as, by its length; and memory that is long enough for every line. Assumes nothing.
use mathlib.Core.Path.{◌≡◌}
use mathlib.Core.List.{List}
use Prim.Native.Nat.{ℕ, suc, ◌+◌, ◌<◌, ◌≤◌}
use native.Mathlib.Omega.{arith}
use lib.ListN.{length}
use borrow.Author.Tests.{lt-ltb, le-ltb}
use Rattle.group.specs.Bytes.{read_word}
use Rattle.group.specs.Limits.{limit}
use Rattle.refusals.specs.Outcomes.{refused}
use Rattle.refusals.specs.Memory.{Memory}
use Rattle.records.specs.Format.{buffer_size}
use Rattle.letters.specs.Judging.{judged_reading, line_read}
use Rattle.words.specs.inside.Lending.{LineRoom}

-- Tables and a buffer of the limit's size are long enough for every line.
pub full_room : {line : List ℕ} {m : Memory} → suc limit ≤ length m.b → suc limit ≤ length m.a
    → buffer_size limit ≤ length m.buffer → LineRoom line m
full_room x y z = record {
  b_long = λ few. omega (arith, x, few);
  a_long = λ few. omega (arith, y, few);
  buffer_long = λ few. omega (arith, z, few);
}

-- A line longer than the limit is refused, whatever it is.
pub read_long : (line : List ℕ) → limit < length line → line_read line ≡ refused 1 limit
read_long line long = simp (lt-ltb limit (length line) long)

-- A line within the limit is refused for its first byte that is no letter, or is a word.
pub read_short : (line : List ℕ) → length line ≤ limit
    → line_read line ≡ judged_reading (read_word line) (length line) (length line + 1) (length line + 1)
read_short line short = simp (le-ltb limit (length line) short)
