-- The three demands of document 01, with the calls of 02, [1] and [5], said of the functions themselves and of the
-- exports for C and Rust: of what is lent to a call, of what it leaves, and of its answer. No contract stands in it.
-- Read this file first; docs/DECISIONS.md quotes the demands as they were set. proofs/Demanded.antt has the proofs, for
-- every library L whose exports end with their contracts (`Exports`, in Calls.antt): thompson, and thompson_c for C.
--     Always f R        every call of the function f, on any arguments, returns, with R of its arguments as they were
--                       and as they are at exit, and of its answer; nothing is asked of the caller
--     export L.f        the export of L that stands for f
-- Letters: u, v bytes lent as a word; w, x words; s bytes lent as a record; m, k memory lent with a word or a text: b
-- table, a table and record buffer, which are b, a, e of the first word and c, d, g of the second; p, q buffers for
-- shapes; t bytes lent as a text, or a buffer for letters or a text; ps powers; r an answer, o an outcome or a
-- decision; a ' marks the same at exit.
-- The names used, what each is, and the crate and file of its specs that define it:
--     x.now                       the elements of the slice behind the reference x                the kit, Denote/Ref
--     reply_of, verdict_of        an answer as accepted n, or as refused with number and place    refusals, Outcomes
--     decision_of                 same, inverse, different, or a refusal of word 0 or 1       comparisons, Comparing
--     outcome_of, decision_in     the same of the two numbers that an export answers              thompson, Codes
--     code_of_decision            the two numbers of a decision: 1 same, 2 inverse, 0 different   thompson, Codes
--     Refuses o R                 each refusal is o just when its condition R holds               claims, Answers
--     RefusesWords d R S          the same of two words, the first word's refusals first          claims, Answers
--     IsRefused, WordRefused, Answered, None R    a refusal; a verdict; no condition              claims, Answers
--     WordRefusal, RecordRefusal, PairRefusal, SpellingRefusal    the conditions, one by one      claims, Refusals
--     TextRefusal, PhraseRefusal  the same of a text; of a record that is to be written as text   claims, Refusals
--     RecordOfWord, PairOfRecord, LengthOfRecord, WordOfRecord, VerdictOfWords    what is given   claims, Given
--     RecordOfText, TextOfRecord  the same of the calls on texts                                  claims, Given
--     text_of ps, AllInRange ps   the text of powers; indices and exponents are allowed           tokens, Texts, Tokens
--     product_letters ps          the letters that powers are read through                        group, Powers
--     Within f                    indices and exponents of the form f are within the limit        records, Format
--     IsRecord s f                s is the record of the form f                                   records, Format
--     Word, bytes_of w            a string of letters; its bytes, one a letter                    group, Letters, Bytes
--     Joined w x                  a chain of steps, each with one of eight strings, joins w to x  group, Chains
--     limit                       4,096                                                           group, Limits
-- Assumes nothing.
use Rattle.std.specs.Prelude.{◌≡◌, List, ◌↔◌, ℕ, ◌≤◌, length, take}
use Rattle.group.specs.Letters.{Word}
use Rattle.group.specs.Bytes.{bytes_of}
use Rattle.group.specs.Chains.{Joined}
use Rattle.group.specs.Maps.{SameMap}
use Rattle.group.specs.Forms.{Form, Trimmed, letters}
use Rattle.group.specs.Reducing.{Reduced}
use Rattle.group.specs.Powers.{SignedPower, product_letters}
use Rattle.group.specs.Limits.{limit}
use Rattle.refusals.specs.Outcomes.{Outcome, accepted, verdict_of, reply_of}
use Rattle.refusals.specs.Memory.{Memory, memory}
use Rattle.records.specs.Format.{IsRecord, Within}
use Rattle.tokens.specs.Tokens.{AllInRange}
use Rattle.tokens.specs.Texts.{text_of}
use Rattle.comparisons.specs.Comparing.{Decision, decision_of}
use Rattle.thompson.specs.Codes.{outcome_of, decision_in, code_of_decision}
use Rattle.claims.specs.Answers.{Refuses, IsRefused, RefusesWords, WordRefused, Answered, None}
use Rattle.claims.specs.Refusals.{WordRefusal, RecordRefusal, PairRefusal, SpellingRefusal, TextRefusal, PhraseRefusal}
use Rattle.claims.specs.Given.{RecordOfWord, PairOfRecord, LengthOfRecord, WordOfRecord, VerdictOfWords}
use Rattle.claims.specs.Given.{RecordOfText, TextOfRecord}
use Rattle.calls.specs.Always.{Always}
use Rattle.calls.specs.Functions.{word_to_record, check_record, record_to_tree_pair, record_to_length}
use Rattle.calls.specs.Functions.{record_to_label_length, record_to_word, same_element, text_to_record, record_to_text}
use Rattle.calls.specs.Functions.{Library, export}

-- What demands 1 (`refuses`, `unaltered`) and 2 (`gives`, `accepts`) say of one call. Word to record.
pub record WordToRecord (u : List ℕ) (m m' : Memory) (o : Outcome ℕ) : Type 0 where
  pub refuses : Refuses o (WordRefusal u m)
  pub unaltered : IsRefused o → m' ≡ m
  pub gives : (n : ℕ) → o ≡ accepted n → (w : Word) × (u ≡ bytes_of w) × RecordOfWord m m' n w

-- Record check; nothing is lent to write to.
pub record CheckRecord (s : List ℕ) (o : Outcome ℕ) : Type 0 where
  pub refuses : Refuses o (RecordRefusal s)
  pub accepts : (o ≡ accepted 0) ↔ ((f : Form) × IsRecord s f)

-- Record to tree pair.
pub record RecordToTreePair (s p q p' q' : List ℕ) (o : Outcome ℕ) : Type 0 where
  pub refuses : Refuses o (PairRefusal s (length p) (length q))
  pub unaltered : IsRefused o → (p' ≡ p) × (q' ≡ q)
  pub gives : (n : ℕ) → o ≡ accepted n → PairOfRecord s p q p' q' n

-- Record to length, also by Table 1; nothing is lent to write to.
pub record RecordToLength (s : List ℕ) (o : Outcome ℕ) : Type 0 where
  pub refuses : Refuses o (RecordRefusal s)
  pub gives : (n : ℕ) → o ≡ accepted n → LengthOfRecord s n

-- Record to word; what is given is said of every record, also where 8 or 7 is met.
pub record RecordToWord (s t t' : List ℕ) (o : Outcome ℕ) : Type 0 where
  pub refuses : Refuses o (SpellingRefusal s (length t))
  pub unaltered : IsRefused o → t' ≡ t
  pub gives : None (RecordRefusal s) → WordOfRecord s t t' o

-- Text to record.
pub record TextToRecord (t : List ℕ) (m m' : Memory) (o : Outcome ℕ) : Type 0 where
  pub refuses : Refuses o (TextRefusal t m)
  pub unaltered : IsRefused o → m' ≡ m
  pub gives : (n : ℕ) → o ≡ accepted n
      → (ps : List SignedPower) × AllInRange ps × (t ≡ text_of ps) × RecordOfText m m' n ps

-- Record to text.
pub record RecordToText (s t t' : List ℕ) (o : Outcome ℕ) : Type 0 where
  pub refuses : Refuses o (PhraseRefusal s (length t))
  pub unaltered : IsRefused o → t' ≡ t
  pub gives : (n : ℕ) → o ≡ accepted n → TextOfRecord s t t' n

-- Two words; what is given says demand 3 of the verdict.
pub record TwoWords (u : List ℕ) (m m' : Memory) (v : List ℕ) (k k' : Memory) (o : Decision) : Type 0 where
  pub refuses : RefusesWords o (WordRefusal u m) (WordRefusal v k)
  pub unaltered : WordRefused o → (m' ≡ m) × (k' ≡ k)
  pub gives : Answered o → VerdictOfWords u m m' v k k' o

-- Demands 1 and 2 of the nine functions.
pub record Demanded : Type 2 where
  pub word_to_record_lem : Always word_to_record
      (λ κs u u' b b' a a' e e' r. WordToRecord u.now (memory b.now a.now e.now)
      (memory b'.now a'.now e'.now) (reply_of r))
  pub check_record_lem : Always check_record
      (λ κs s s' r. CheckRecord s.now (verdict_of r))
  pub record_to_tree_pair_lem : Always record_to_tree_pair
      (λ κs s s' p p' q q' r. RecordToTreePair s.now p.now q.now p'.now q'.now (reply_of r))
  pub record_to_length_lem : Always record_to_length
      (λ κs s s' r. RecordToLength s.now (reply_of r))
  pub record_to_label_length_lem : Always record_to_label_length
      (λ κs s s' r. RecordToLength s.now (reply_of r))
  pub record_to_word_lem : Always record_to_word
      (λ κs s s' t t' r. RecordToWord s.now t.now t'.now (reply_of r))
  pub same_element_lem : Always same_element
      (λ κs u u' b b' a a' e e' v v' c c' d d' g g' r. TwoWords
      u.now (memory b.now a.now e.now) (memory b'.now a'.now e'.now)
      v.now (memory c.now d.now g.now) (memory c'.now d'.now g'.now) (decision_of r))
  pub text_to_record_lem : Always text_to_record
      (λ κs t t' b b' a a' e e' r. TextToRecord t.now (memory b.now a.now e.now)
      (memory b'.now a'.now e'.now) (reply_of r))
  pub record_to_text_lem : Always record_to_text
      (λ κs s s' t t' r. RecordToText s.now t.now t'.now (reply_of r))

-- The same of the exports of L; the numbers on two words are just those of the decision that is read in them.
pub record DemandedOfExports (L : Library) : Type 2 where
  pub word_to_record_lem : Always (export L.word_to_record)
      (λ κs u u' b b' a a' e e' r. WordToRecord u.now (memory b.now a.now e.now)
      (memory b'.now a'.now e'.now) (outcome_of r))
  pub check_record_lem : Always (export L.check_record)
      (λ κs s s' r. CheckRecord s.now (outcome_of r))
  pub record_to_tree_pair_lem : Always (export L.record_to_tree_pair)
      (λ κs s s' p p' q q' r. RecordToTreePair s.now p.now q.now p'.now q'.now (outcome_of r))
  pub record_to_length_lem : Always (export L.record_to_length)
      (λ κs s s' r. RecordToLength s.now (outcome_of r))
  pub record_to_label_length_lem : Always (export L.record_to_label_length)
      (λ κs s s' r. RecordToLength s.now (outcome_of r))
  pub record_to_word_lem : Always (export L.record_to_word)
      (λ κs s s' t t' r. RecordToWord s.now t.now t'.now (outcome_of r))
  pub same_element_lem : Always (export L.same_element)
      (λ κs u u' b b' a a' e e' v v' c c' d d' g g' r. TwoWords
      u.now (memory b.now a.now e.now) (memory b'.now a'.now e'.now)
      v.now (memory c.now d.now g.now) (memory c'.now d'.now g'.now) (decision_in r)
      × (r ≡ code_of_decision (decision_in r)))
  pub text_to_record_lem : Always (export L.text_to_record)
      (λ κs t t' b b' a a' e e' r. TextToRecord t.now (memory b.now a.now e.now)
      (memory b'.now a'.now e'.now) (outcome_of r))
  pub record_to_text_lem : Always (export L.record_to_text)
      (λ κs s s' t t' r. RecordToText s.now t.now t'.now (outcome_of r))

-- The reduced form with the word's map is within the limits: so it is of every word of at most as many letters as the
-- limit, and of the letters of every text that is accepted.
pub record Fits (w : Word) : Type 0 where
  pub form : Form
  pub reduced : Reduced form
  pub trimmed : Trimmed form
  pub same_map : SameMap (letters form) w
  pub within : Within form

-- Demand 3: every word has one record, which each accepted call on it writes, in letters or in subscript notation and
-- whatever the lent memory held; and two words whose forms are within the limits have the same record just when a chain
-- joins them. The word and the text that are written for a record have that record.
pub record OneRecord (L : Library) : Type 2 where
  pub record_of : Word → List ℕ
  pub equal_just_when_joined : (w x : Word) → Fits w → Fits x → (record_of w ≡ record_of x) ↔ Joined w x
  pub short_fits : (w : Word) → length w ≤ limit → Fits w
  pub written : Always word_to_record (λ κs u u' b b' a a' e e' r.
      (w : Word) (n : ℕ) → u.now ≡ bytes_of w → reply_of r ≡ accepted n
      → (length w ≤ limit) × (take n e'.now ≡ record_of w))
  pub exported : Always (export L.word_to_record)
      (λ κs u u' b b' a a' e e' r. (w : Word) (n : ℕ) → u.now ≡ bytes_of w → outcome_of r ≡ accepted n
      → (length w ≤ limit) × (take n e'.now ≡ record_of w))
  pub written_text : Always text_to_record (λ κs t t' b b' a a' e e' r.
      (ps : List SignedPower) (n : ℕ) → t.now ≡ text_of ps → reply_of r ≡ accepted n
      → Fits (product_letters ps) × (take n e'.now ≡ record_of (product_letters ps)))
  pub exported_text : Always (export L.text_to_record)
      (λ κs t t' b b' a a' e e' r. (ps : List SignedPower) (n : ℕ) → t.now ≡ text_of ps → outcome_of r ≡ accepted n
      → Fits (product_letters ps) × (take n e'.now ≡ record_of (product_letters ps)))
  pub spelled : Always record_to_word (λ κs s s' t t' r.
      (n : ℕ) → reply_of r ≡ accepted n
      → (x : Word) × (take n t'.now ≡ bytes_of x) × (length x ≤ limit) × (record_of x ≡ s.now))
  pub spelled_exported : Always (export L.record_to_word)
      (λ κs s s' t t' r. (n : ℕ) → outcome_of r ≡ accepted n
      → (x : Word) × (take n t'.now ≡ bytes_of x) × (length x ≤ limit) × (record_of x ≡ s.now))
  pub phrased : Always record_to_text (λ κs s s' t t' r.
      (n : ℕ) → reply_of r ≡ accepted n
      → (ps : List SignedPower) × (take n t'.now ≡ text_of ps) × Fits (product_letters ps)
      × (record_of (product_letters ps) ≡ s.now))
  pub phrased_exported : Always (export L.record_to_text)
      (λ κs s s' t t' r. (n : ℕ) → outcome_of r ≡ accepted n
      → (ps : List SignedPower) × (take n t'.now ≡ text_of ps) × Fits (product_letters ps)
      × (record_of (product_letters ps) ≡ s.now))
