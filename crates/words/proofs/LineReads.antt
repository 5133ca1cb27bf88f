-- A line beside tables and a buffer that are long enough for it, if it is within the limit: what it is read as.
-- Assumes nothing.
use mathlib.Core.Path.{◌≡◌, refl}
use mathlib.Core.Bool.{Bool, true, false, cond}
use mathlib.Core.List.{List}
use Prim.Native.Nat.{ℕ, suc, ◌+◌, ◌≤◌}
use native.Mathlib.Omega.{arith}
use lib.ListN.{length}
use lib.Dec.{ltb}
use borrow.Author.Tests.{le-ltb, ltb-false}
use Rattle.group.specs.Bytes.{Reading, is_word, not_letter_is, read_word}
use Rattle.group.specs.Limits.{limit}
use Rattle.refusals.specs.Outcomes.{accepted, refused, then}
use Rattle.refusals.specs.Memory.{Memory}
use Rattle.records.specs.Format.{buffer_size}
use Rattle.letters.specs.Judging.{judged_reading, line_read}
use Rattle.words.specs.Recording.{judged_with}
use Rattle.words.specs.inside.Lending.{LineRoom}

module _ (n nb na nr : ℕ) (hb : n ≤ limit → suc n ≤ nb) (ha : n ≤ limit → suc n ≤ na)
    (hr : n ≤ limit → buffer_size n ≤ nr) where
  -- By what the line's length and its bytes are.
  judged_same : (long : Bool) (r : Reading) → (long ≡ false → n ≤ limit)
      → then
      (cond long (refused 1 limit) (judged_reading r n nb na))
      (λ w. cond (ltb nr (buffer_size n)) (refused 7 0) (accepted w))
      ≡ cond long (refused 1 limit) (judged_reading r n (n + 1) (n + 1))
  judged_same true r h = refl
  judged_same false (not_letter_is k) h = refl
  judged_same false (is_word w) h =
      let few : n ≤ limit = h refl in
      simp (
        le-ltb nb (n + 1) (omega (arith, hb few)),
        le-ltb na (n + 1) (omega (arith, ha few)),
        le-ltb nr (buffer_size n) (hr few),
        le-ltb (n + 1) (n + 1) (omega arith),
      )

-- No table and no buffer is too short.
pub line_judged : {line : List ℕ} {m : Memory} → LineRoom line m → judged_with line m ≡ line_read line
line_judged {line} {m} h =
    judged_same (length line) (length m.b) (length m.a) (length m.buffer) h.b_long h.a_long
    h.buffer_long (ltb limit (length line)) (read_word line) (λ e. ltb-false limit (length line) e)
