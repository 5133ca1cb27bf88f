-- Accepted calls, one record for each kind: what was lent, what was left, the answer and its value, whatever the lent
-- memory held. `contract` is the call's own contract, which its function is proved to meet (crate `calls`).
--     WordCall w          word_to_record on the bytes of the word w
--     TextCall ps         text_to_record on the text of the powers ps
--     CallOn w            one of both, on the word w                         record_by c   the record that it wrote
--     SpellingCall s      record_to_word on the record s                     spelled_by c  the letters that it wrote
--     PhraseCall s        record_to_text on the record s                     phrased_by c  the text that it wrote
--     PairCall s          record_to_tree_pair on the record s
--     LengthCall s        record_to_length on the record s
--     LabelLengthCall s   record_to_label_length on the record s
--     TwoWordCall u v     same_element on the bytes u and v, which answered
--     ExportedCall w      thompson_word_to_record, thompson_text_to_record   exported_record c  the record it wrote
-- Assumes nothing.
use Rattle.std.specs.Prelude.{◌≡◌, List, ℕ, take, Result}
use Rattle.refusals.specs.declared.Refusal.{Refusal}
use Rattle.group.specs.Letters.{Word}
use Rattle.group.specs.Bytes.{bytes_of}
use Rattle.group.specs.Forms.{Form}
use Rattle.group.specs.Powers.{SignedPower, product_letters}
use Rattle.refusals.specs.Outcomes.{accepted, reply_of}
use Rattle.refusals.specs.Memory.{Memory}
use Rattle.words.specs.Recording.{Recorded}
use Rattle.comparisons.specs.Comparing.{Compared, decision_of}
use Rattle.comparisons.specs.declared.Comparison.{Comparison}
use Rattle.comparisons.specs.declared.RefusedWord.{RefusedWord}
use Rattle.lengths.specs.Weights.{form_length}
use Rattle.pairs.specs.Promises.{Paired, label_sum, Measured}
use Rattle.spelling.specs.Promises.{Spelled}
use Rattle.tokens.specs.Texts.{text_of}
use Rattle.notation.specs.Promises.{TextRecorded, TextWritten}
use Rattle.thompson.specs.Codes.{code_of, Passed}
use Rattle.thompson.specs.declared.Answer.{Answer}
use Rattle.claims.specs.Answers.{Answered}

-- An accepted call that was lent memory, by its contract.
pub record MemoryCall (R : Memory → Memory → Result ℕ Refusal → Type 0) : Type 0 where
  pub lent : Memory
  pub left : Memory
  pub answer : Result ℕ Refusal
  pub count : ℕ
  pub contract : R lent left answer
  pub taken : reply_of answer ≡ accepted count

-- An accepted call of word_to_record on the bytes of a word.
abbrev pub WordCall : Word → Type 0
WordCall w = MemoryCall (Recorded (bytes_of w))

-- An accepted call of text_to_record on the text of powers.
abbrev pub TextCall : List SignedPower → Type 0
TextCall ps = MemoryCall (TextRecorded (text_of ps))

-- An accepted call on a word: by its bytes, or by the text of powers through whose letters it is read.
pub data CallOn (w : Word) : Type 0 where
  by_word : WordCall w → CallOn w
  by_text : (ps : List SignedPower) → w ≡ product_letters ps → TextCall ps → CallOn w

-- The bytes that a call wrote.
abbrev pub written_by : {R : Memory → Memory → Result ℕ Refusal → Type 0} → MemoryCall R → List ℕ
written_by c = take c.count c.left.buffer

-- The record that it wrote.
abbrev pub record_by : {w : Word} → CallOn w → List ℕ
record_by (by_word c) = written_by c
record_by (by_text ps e c) = written_by c

-- An accepted call of record_to_word.
pub record SpellingCall (s : List ℕ) : Type 0 where
  pub lent : List ℕ
  pub left : List ℕ
  pub answer : Result ℕ Refusal
  pub count : ℕ
  pub contract : Spelled s lent left answer
  pub taken : reply_of answer ≡ accepted count

-- The letters that it wrote, as bytes.
abbrev pub spelled_by : {s : List ℕ} → SpellingCall s → List ℕ
spelled_by c = take c.count c.left

-- An accepted call of record_to_text.
pub record PhraseCall (s : List ℕ) : Type 0 where
  pub lent : List ℕ
  pub left : List ℕ
  pub answer : Result ℕ Refusal
  pub count : ℕ
  pub contract : TextWritten s lent left answer
  pub taken : reply_of answer ≡ accepted count

-- The text that it wrote.
abbrev pub phrased_by : {s : List ℕ} → PhraseCall s → List ℕ
phrased_by c = take c.count c.left

-- An accepted call of record_to_tree_pair.
pub record PairCall (s : List ℕ) : Type 0 where
  pub lent_minus : List ℕ
  pub lent_plus : List ℕ
  pub left_minus : List ℕ
  pub left_plus : List ℕ
  pub answer : Result ℕ Refusal
  pub count : ℕ
  pub contract : Paired s lent_minus lent_plus left_minus left_plus answer
  pub taken : reply_of answer ≡ accepted count

-- An accepted call that answers what is counted of a record's form.
pub record MeasureCall (measure : Form → ℕ) (s : List ℕ) : Type 0 where
  pub answer : Result ℕ Refusal
  pub count : ℕ
  pub contract : Measured measure s answer
  pub taken : reply_of answer ≡ accepted count

-- An accepted call of record_to_length.
abbrev pub LengthCall : List ℕ → Type 0
LengthCall s = MeasureCall form_length s

-- An accepted call of record_to_label_length.
abbrev pub LabelLengthCall : List ℕ → Type 0
LabelLengthCall s = MeasureCall label_sum s

-- A call of same_element that answered same, inverse or different.
pub record TwoWordCall (u v : List ℕ) : Type 0 where
  pub lent1 : Memory
  pub left1 : Memory
  pub lent2 : Memory
  pub left2 : Memory
  pub answer : Result Comparison RefusedWord
  pub contract : Compared u lent1 left1 v lent2 left2 answer
  pub taken : Answered (decision_of answer)

-- An accepted call of an export that was lent memory: its refusal is 0.
pub record ExportedMemoryCall (R : Memory → Memory → Result ℕ Refusal → Type 0) : Type 0 where
  pub lent : Memory
  pub left : Memory
  pub answer : Answer
  pub contract : Passed (λ r. code_of (reply_of r)) (R lent left) answer
  pub taken : answer.refusal ≡ 0

-- An accepted call of thompson_word_to_record or of thompson_text_to_record on a word.
pub data ExportedCall (w : Word) : Type 0 where
  exported_word : ExportedMemoryCall (Recorded (bytes_of w)) → ExportedCall w
  exported_text : (ps : List SignedPower) → w ≡ product_letters ps → ExportedMemoryCall (TextRecorded (text_of ps))
      → ExportedCall w

-- The record that it wrote.
abbrev pub exported_record : {w : Word} → ExportedCall w → List ℕ
exported_record (exported_word c) = take c.answer.value c.left.buffer
exported_record (exported_text ps e c) = take c.answer.value c.left.buffer
