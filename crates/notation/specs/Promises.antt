-- Texts in subscript notation, read into a record and written from one (02, [1]), on every input.
--     judged_text o m           what a text is read as, beside the memory m, or what is refused
--     TextRecorded t m m' r    the contract of `text_to_record`: refusals 9, 10, 11, 6 and 7, in this order
--     text_in s out             the text of the record s, beside a buffer, or what is refused
--     TextWritten s t t' r     the contract of `record_to_text`: refusals 3, 4, 5 and 7, in this order
-- Assumes nothing.
use Rattle.std.specs.Prelude.{◌≡◌, cond, List, ℕ, length, ltb, Result}
use Rattle.std.proofs.lemmas.List.Edits.{sets}
use Rattle.refusals.specs.declared.Refusal.{Refusal}
use Rattle.group.specs.Forms.{b_side, a_side, Form}
use Rattle.group.specs.Powers.{SignedPower, exponent_sizes, form_powers}
use Rattle.refusals.specs.Outcomes.{Outcome, accepted, refused, after, then, valued, reply_of}
use Rattle.refusals.specs.Placing.{fitting, Placed}
use Rattle.refusals.specs.Memory.{Memory}
use Rattle.fields.specs.Fields.{Bytes}
use Rattle.records.specs.Format.{encode, buffer_size}
use Rattle.records.specs.Reading.{decode}
use Rattle.forest.specs.Filling.{product_form, tables_for, product_table}
use Rattle.tokens.specs.Texts.{text_of}
use Rattle.tokens.specs.Reading.{TextRead}

-- Powers beside tables and a buffer of these lengths: 11 and 6, then 7 where the buffer is too short for as many
-- entries as the exponents sum to.
abbrev pub room_for : (nb na nr : ℕ) → List SignedPower → Outcome (List SignedPower)
room_for nb na nr ps =
    then (tables_for nb na ps) (λ qs. cond (ltb nr (buffer_size (exponent_sizes qs))) (refused 7 0) (accepted qs))

-- What was read, beside the memory that is lent with it.
abbrev pub judged_text : Outcome (List SignedPower) → Memory → Outcome (List SignedPower)
judged_text o m = then o (room_for (length m.b) (length m.a) (length m.buffer))

-- For every text and whatever is lent with it: the value is the number of bytes of the record, which stands at the
-- front of the buffer.
pub record TextRecorded (t : List ℕ) (entry exit : Memory) (r : Result ℕ Refusal) : Type 0 where
  pub found : Outcome (List SignedPower)
  pub reads : TextRead t found
  pub result : reply_of r ≡ valued (λ ps. length (encode (product_form ps))) (judged_text found entry)
  pub b_table : exit.b ≡ product_table b_side (judged_text found entry) entry.b
  pub a_table : exit.a ≡ product_table a_side (judged_text found entry) entry.a
  pub bytes : exit.buffer
      ≡ after (judged_text found entry) entry.buffer (λ ps. sets entry.buffer 0 (encode (product_form ps)))

-- The text of a form: one token a power, in the form's order.
abbrev pub form_text : Form → List ℕ
form_text f = text_of (form_powers f)

-- The text of a record's form, or what is refused of the record and the buffer.
abbrev pub text_in : (s out : List ℕ) → Outcome (List ℕ)
text_in s out = then (decode s) (λ f. fitting (length (form_text f)) (form_text f) out)

-- The text stands at the front of the buffer; the value is the number of its bytes. What is lent as a record are bytes.
pub record TextWritten (s out out' : List ℕ) (r : Result ℕ Refusal) : Type 0 where
  pub are_bytes : Bytes s
  pub placed : Placed (text_in s out) out out' r
