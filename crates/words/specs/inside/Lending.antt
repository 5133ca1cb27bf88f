-- Word to record with scratch that is lent: the contract of `record_with`, a call inside the library.
-- Inside: no claim reaches these definitions; a reader of the claims need not believe them. Assumes nothing.
use Rattle.std.specs.Prelude.{◌≡◌, Bool, cond, List, ℕ, suc, ◌≤◌, length, Result, Ok, Err}
use Rattle.refusals.specs.declared.Failure.{Failure}
use Rattle.refusals.specs.declared.Failure.TheVariants.{Refused, Unfit}
use Rattle.group.specs.Letters.{Word}
use Rattle.group.specs.Limits.{limit}
use Rattle.refusals.specs.Outcomes.{Outcome, accepted, refused, refusal}
use Rattle.refusals.specs.Memory.{Memory}
use Rattle.records.specs.Format.{buffer_size}
use Rattle.forest.specs.inside.Filling.{fits}
use Rattle.words.specs.Recording.{count_record, judged_with, Left}

-- The outcome of each answer; 0 is no number of the paper.
abbrev pub recording_of : Result ℕ Failure → Outcome ℕ
recording_of (Ok n) = accepted n
recording_of (Err (Refused r)) = refusal r
recording_of (Err Unfit) = refused 0 0

-- By a test of the scratch, which comes first.
abbrev pub tested_by : Bool → Outcome Word → Outcome Word
tested_by ok o = cond ok o (refused 0 0)

-- The word beside its memory and scratch: scratch that is too short comes first.
abbrev pub judged_within : (word : List ℕ) → Memory → (lefts rights stack : List ℕ) → Outcome Word
judged_within word m lefts rights stack = tested_by (fits word lefts rights stack) (judged_with word m)

-- For every word and whatever is lent with it: as word to record where the scratch is long enough. What the scratch
-- holds at exit is open where the word is accepted; else it is as it was.
pub record RecordedWith (word : List ℕ) (entry exit : Memory) (lefts rights stack lefts' rights' stack' : List ℕ)
    (r : Result ℕ Failure) : Type 0 where
  pub result : recording_of r ≡ count_record (judged_within word entry lefts rights stack)
  pub leaves : Left (judged_within word entry lefts rights stack) entry exit
  pub scratch_kept : (number place : ℕ) → judged_within word entry lefts rights stack ≡ refused number place
      → (lefts' ≡ lefts) × (rights' ≡ rights) × (stack' ≡ stack)

-- Memory that is long enough for a line, if it is within the limit.
pub record LineRoom (line : List ℕ) (m : Memory) : Type 0 where
  pub b_long : length line ≤ limit → suc (length line) ≤ length m.b
  pub a_long : length line ≤ limit → suc (length line) ≤ length m.a
  pub buffer_long : length line ≤ limit → buffer_size (length line) ≤ length m.buffer
