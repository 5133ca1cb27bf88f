-- Word to record (01, 'What the desk can be asked', 'Who caused the refusal'): refusals 1, 2, 6 and 7 in this order;
-- else the exponents of the word's reduced form in the tables and its record at the front of the buffer.
--     judged_record   the word, or what is refused of it, the tables and the buffer
--     table_after, buffer_after   what is lent, at exit         Recorded   the contract of `word_to_record`
-- Assumes nothing.
use Rattle.std.specs.Prelude.{◌≡◌, cond, List, ℕ, length, ltb, Result}
use Rattle.std.proofs.lemmas.List.Edits.{sets}
use Rattle.refusals.specs.declared.Refusal.{Refusal}
use Rattle.group.specs.Letters.{Word}
use Rattle.group.specs.Forms.{b_side, a_side}
use Rattle.group.specs.Products.{form_of}
use Rattle.refusals.specs.Outcomes.{Outcome, accepted, refused, after, then, valued, reply_of}
use Rattle.refusals.specs.Memory.{Memory}
use Rattle.records.specs.Format.{encode, buffer_size}
use Rattle.letters.specs.Judging.{judged}
use Rattle.forest.specs.Filling.{table_after}

-- The record of a word.
abbrev pub encode_word : Word → List ℕ
encode_word w = encode (form_of w)

-- The word that bytes are, beside tables and a buffer of these lengths, or its refusal: 1, 2 and 6, then 7, by the
-- number of letters as they were sent.
abbrev pub judged_record : (word : List ℕ) (nb na nr : ℕ) → Outcome Word
judged_record word nb na nr =
    then (judged word nb na) (λ w. cond (ltb nr (buffer_size (length word))) (refused 7 0) (accepted w))

-- The buffer at exit: the record at its front, everything beyond unchanged.
abbrev pub buffer_after : Outcome Word → List ℕ → List ℕ
buffer_after o buffer = after o buffer (λ w. sets buffer 0 (encode_word w))

-- The outcome of the call: the number of bytes of the record.
abbrev pub count_record : Outcome Word → Outcome ℕ
count_record o = valued (λ w. length (encode_word w)) o

-- The word beside the memory that is lent with it.
abbrev pub judged_with : List ℕ → Memory → Outcome Word
judged_with word m = judged_record word (length m.b) (length m.a) (length m.buffer)

-- The memory at exit, by the outcome.
pub record Left (o : Outcome Word) (entry exit : Memory) : Type 0 where
  pub b_table : exit.b ≡ table_after b_side o entry.b
  pub a_table : exit.a ≡ table_after a_side o entry.a
  pub bytes : exit.buffer ≡ buffer_after o entry.buffer

-- A word's own outcome, where what is judged beside it is accepted too; else a refusal.
abbrev pub beside : {A B : Type 0} → Outcome A → Outcome B → Outcome A
beside own (accepted v) = own
beside own (refused number place) = refused number place

-- For every word and whatever is lent with it.
pub record Recorded (word : List ℕ) (entry exit : Memory) (r : Result ℕ Refusal) : Type 0 where
  pub result : reply_of r ≡ count_record (judged_with word entry)
  pub leaves : Left (judged_with word entry) entry exit
