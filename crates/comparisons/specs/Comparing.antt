-- Two words (01, 'What the desk can be asked'; 02, [7]): same, inverse or different by their records. The first word's
-- refusals come first, and a refusal names which word; on a refusal nothing that was lent for either word is altered.
--     Decision   the verdict, or the word (0 or 1) with number and place      Compared   the contract of `same_element`
-- Assumes nothing.
use Rattle.std.specs.Prelude.{◌≡◌, Bool, cond, List, ℕ, Result, Ok, Err}
use Rattle.lists.specs.SameBytes.{same_bytes}
use Rattle.group.specs.Letters.{Word}
use Rattle.refusals.specs.Refusals.{number_of, place_of}
use Rattle.refusals.specs.Outcomes.{Outcome, accepted, refused}
use Rattle.refusals.specs.Memory.{Memory}
use Rattle.comparisons.specs.declared.Comparison.{Comparison}
use Rattle.comparisons.specs.declared.Comparison.TheVariants.{Same, Inverse, Different}
use Rattle.comparisons.specs.declared.RefusedWord.{RefusedWord}
use Rattle.comparisons.specs.declared.RefusedWord.TheVariants.{First, Second}
use Rattle.records.specs.Exchange.{exchanged}
use Rattle.words.specs.Recording.{encode_word, judged_with, Left, beside}

-- What the call comes to.
pub data Decision : Type 0 where
  same inverse different : Decision
  refused_word : (word number place : ℕ) → Decision

-- The decision of each answer.
abbrev pub decision_of : Result Comparison RefusedWord → Decision
decision_of (Ok Same) = same
decision_of (Ok Inverse) = inverse
decision_of (Ok Different) = different
decision_of (Err (First r)) = refused_word 0 (number_of r) (place_of r)
decision_of (Err (Second r)) = refused_word 1 (number_of r) (place_of r)

-- The verdict on two records: same where they are equal, else inverse where the first is the second with its sides
-- exchanged, else different.
abbrev pub verdict_by : (equal exchange : Bool) → Decision
verdict_by equal exchange = cond equal same (cond exchange inverse different)

abbrev pub verdict_on : List ℕ → List ℕ → Decision
verdict_on s t = verdict_by (same_bytes s t) (same_bytes s (exchanged t))

-- The first word's refusal, then the second's, then the verdict by the records.
abbrev pub decided : Outcome Word → Outcome Word → Decision
decided (refused number place) second = refused_word 0 number place
decided (accepted u) (refused number place) = refused_word 1 number place
decided (accepted u) (accepted v) = verdict_on (encode_word u) (encode_word v)

-- The answer and what is left of both memories, by the outcomes of the two words.
pub record ComparedBy (first second : Outcome Word) (entry1 exit1 entry2 exit2 : Memory)
    (r : Result Comparison RefusedWord) : Type 0 where
  pub result : decision_of r ≡ decided first second
  pub leaves1 : Left (beside first second) entry1 exit1
  pub leaves2 : Left (beside second first) entry2 exit2

-- For any two words and whatever is lent with them.
abbrev pub Compared : (word1 : List ℕ) (entry1 exit1 : Memory) (word2 : List ℕ) (entry2 exit2 : Memory)
    → Result Comparison RefusedWord → Type 0
Compared word1 entry1 exit1 word2 entry2 exit2 r =
    ComparedBy (judged_with word1 entry1) (judged_with word2 entry2) entry1 exit1 entry2 exit2 r
