-- A line of a list (02, [4]), beside tables above the limit and an output with room for its record: what it is read as,
-- and the refusals that it may meet. Assumes nothing.
use mathlib.Core.Path.{◌≡◌, refl, sym, ap, ◌∙◌}
use mathlib.Core.Bool.{Bool, true, false, cond}
use mathlib.Core.List.{List}
use mathlib.Core.Logic.{◌⊎◌, inl, inr}
use Prim.Native.Nat.{ℕ, ◌+◌, ◌<◌, ◌≤◌}
use native.Mathlib.Omega.{arith}
use lib.ListN.{length}
use lib.Dec.{ltb}
use borrow.Author.Tests.{le-ltb, ltb-false}
use Rattle.group.specs.Letters.{Word}
use Rattle.group.specs.Bytes.{bytes_of, Reading, is_word, not_letter_is, read_word}
use Rattle.group.specs.Limits.{limit}
use Rattle.group.proofs.Bytes.{read_word_lem, bytes_length, not_letter}
use Rattle.refusals.specs.Outcomes.{accepted, refused}
use Rattle.refusals.specs.Memory.{Memory}
use Rattle.refusals.proofs.Outcomes.{accepted_refused, refused_number, refused_place}
use Rattle.records.specs.Format.{buffer_size}
use Rattle.letters.specs.Judging.{judged_reading, line_read}
use Rattle.words.specs.Recording.{judged_with}
use Rattle.words.proofs.LineReads.{line_judged}

-- Tables of as many entries as a word asks for are never too short.
word_fits : (n : ℕ) (w : Word) → judged_reading (is_word w) n (n + 1) (n + 1) ≡ accepted w
word_fits n w = simp (le-ltb (n + 1) (n + 1) (omega arith))

-- The call on a line meets neither 6 nor 7.
pub judged_line : (l : List ℕ) (m : Memory) → limit < length m.b → limit < length m.a
    → buffer_size (length l) ≤ length m.buffer → judged_with l m ≡ line_read l
judged_line l m b_long a_long roomy =
    line_judged {line = l} {m = m} (record {
      b_long = λ few. omega (arith, b_long, few);
      a_long = λ few. omega (arith, a_long, few);
      buffer_long = λ few. roomy;
    })

-- The bytes of a word within the limit are read as that word.
pub read_bytes : (w : Word) → length w ≤ limit → line_read (bytes_of w) ≡ accepted w
read_bytes w few =
    let n = length (bytes_of w) in
    simp (le-ltb limit n (omega (arith, bytes_length w)))
    (ap (λ (r : Reading). judged_reading r n (n + 1) (n + 1)) (read_word_lem w) ∙ word_fits n w)

-- The refusals of a line: 1 with the limit, or 2 with an offset in the line.
module _ (l : List ℕ) (n p : ℕ) where
  refused_by : (long : Bool) (r : Reading) → (long ≡ false → length l ≤ limit) → read_word l ≡ r
      → cond long (refused 1 limit) (judged_reading r (length l) (length l + 1) (length l + 1)) ≡ refused n p
      → ((n ≡ 1) ⊎ (n ≡ 2)) × (p ≤ limit)
  refused_by true r h e o = (inl (sym (refused_number o)), omega (arith, refused_place o))
  refused_by false (not_letter_is k) h e o =
      let first = (not_letter l k).0 e in
      (inr (sym (refused_number o)), omega (arith, h refl, first.within, refused_place o))
  refused_by false (is_word w) h e o = absurd (accepted_refused (sym (word_fits (length l) w) ∙ o))

  pub read_refused : line_read l ≡ refused n p → ((n ≡ 1) ⊎ (n ≡ 2)) × (p ≤ limit)
  read_refused o =
      refused_by (ltb limit (length l)) (read_word l) (λ e. ltb-false limit (length l) e) refl o
