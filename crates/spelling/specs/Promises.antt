-- The contract of record to word on every input (01, 'What the desk can be asked', 'Who caused the refusal'): refusals
-- 3, 4 and 5 of the record, then 8, then 7.
--     spelled_in s n   the word of the bytes s, beside a buffer of n bytes, or what is refused
--     Spelled         the contract of `record_to_word`
-- Assumes nothing.
use Rattle.std.specs.Prelude.{◌≡◌, cond, List, ℕ, length, ltb, Result}
use Rattle.std.proofs.lemmas.List.Edits.{sets}
use Rattle.refusals.specs.declared.Refusal.{Refusal}
use Rattle.group.specs.Letters.{Word}
use Rattle.group.specs.Bytes.{bytes_of}
use Rattle.group.specs.Limits.{limit}
use Rattle.refusals.specs.Outcomes.{Outcome, accepted, refused, after, then, valued, reply_of}
use Rattle.records.specs.Reading.{decode}
use Rattle.fields.specs.Fields.{Bytes}
use Rattle.spelling.specs.Spelling.{spelling}

-- A word beside a buffer of n bytes: 8 where it has more letters than the limit, then 7 where it has more than n.
abbrev pub word_in : ℕ → Word → Outcome Word
word_in n w = cond (ltb limit (length w)) (refused 8 0) (cond (ltb n (length w)) (refused 7 0) (accepted w))

-- The spelling of a record's form, beside a buffer of n bytes.
abbrev pub spelled_in : List ℕ → ℕ → Outcome Word
spelled_in s n = then (decode s) (λ f. word_in n (spelling f))

-- The word stands at the front of the buffer, and everything beyond is unchanged; the value is its number of letters.
-- What is lent as a record are bytes.
pub record Spelled (s word word' : List ℕ) (r : Result ℕ Refusal) : Type 0 where
  pub are_bytes : Bytes s
  pub result : reply_of r ≡ valued length (spelled_in s (length word))
  pub bytes : word' ≡ after (spelled_in s (length word)) word (λ w. sets word 0 (bytes_of w))
