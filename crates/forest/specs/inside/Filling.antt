-- The engine as a call inside the library: its scratch, its answers and its contract.
-- Inside: no claim reaches these definitions; a reader of the claims need not believe them. Assumes nothing.
use Rattle.std.specs.Prelude.{◌≡◌, Bool, true, false, cond, List, ℕ, ◌+◌, ◌≤◌, length, ltb, Result, Ok, Err}
use Rattle.refusals.specs.declared.Failure.{Failure}
use Rattle.refusals.specs.declared.Failure.TheVariants.{Refused, Unfit}
use Rattle.group.specs.Letters.{Word}
use Rattle.group.specs.Forms.{b_side, a_side, levels}
use Rattle.group.specs.Products.{form_of}
use Rattle.group.specs.Limits.{limit}
use Rattle.refusals.specs.Outcomes.{Outcome, accepted, refused, drop_value, refusal}
use Rattle.letters.specs.Judging.{judged}
use Rattle.forest.specs.Filling.{table_after}

-- The entries of `lefts` and of `rights`: codes up to the last tip are tips, and each letter takes one cell more at
-- most.
abbrev pub cells_for : (last : ℕ) → ℕ
cells_for last = last + last + 1

-- The entries of `stack`: the most bushes that stand on it at once.
abbrev pub room_for : (last : ℕ) → ℕ
room_for last = last + 2

-- Where the last tip is the limit.
abbrev pub cells : ℕ
cells = cells_for limit

-- The last tip that n letters need: no word has more letters than the limit.
abbrev pub last_tip_value : (n : ℕ) → ℕ
last_tip_value n = cond (ltb limit n) limit n

-- Scratch of these lengths is long enough for the engine.
abbrev pub fits_for : (last nl nr ns : ℕ) → Bool
fits_for last nl nr ns =
    cond (ltb nl (cells_for last)) false
    (cond (ltb nr (cells_for last)) false (cond (ltb ns (room_for last)) false true))

-- The scratch is long enough for a word.
abbrev pub fits : (word lefts rights stack : List ℕ) → Bool
fits word lefts rights stack =
    fits_for (last_tip_value (length word)) (length lefts) (length rights) (length stack)

-- The word, beside tables and scratch. Scratch that is too short comes first; 0 is no number of the paper, and no call
-- of the paper meets it.
abbrev pub judged_in : (word b a lefts rights stack : List ℕ) → Outcome Word
judged_in word b a lefts rights stack =
    cond (fits word lefts rights stack) (judged word (length b) (length a)) (refused 0 0)

-- The outcome of each answer.
abbrev pub filling_of : Result ℕ Failure → Outcome ℕ
filling_of (Ok n) = accepted 0
filling_of (Err (Refused r)) = refusal r
filling_of (Err Unfit) = refused 0 0

-- For every word and whatever is lent with it. What the scratch holds at exit is open where the word is accepted.
pub record FilledTables (word b a lefts rights stack b' a' lefts' rights' stack' : List ℕ)
    (r : Result ℕ Failure) : Type 0 where
  pub result : filling_of r ≡ drop_value (judged_in word b a lefts rights stack)
  pub b_table : b' ≡ table_after b_side (judged_in word b a lefts rights stack) b
  pub a_table : a' ≡ table_after a_side (judged_in word b a lefts rights stack) a
  pub scratch_kept : (number place : ℕ) → judged_in word b a lefts rights stack ≡ refused number place
      → (lefts' ≡ lefts) × (rights' ≡ rights) × (stack' ≡ stack)
  -- The entries below n are all that a record of the form needs; how far n is above the number of levels is open.
  pub levels_read : (n : ℕ) → r ≡ Ok n → (w : Word) → judged_in word b a lefts rights stack ≡ accepted w
      → (levels (form_of w) ≤ n) × (n ≤ length w + 1)
