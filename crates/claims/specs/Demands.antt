-- Demands 1, 2 and 3 on the seventeen calls, over the calls' contracts; proofs/Demands.antt has the proofs. The demands
-- as they were set are quoted in docs/DECISIONS.md. crates/calls/specs/Demanded.antt says the same of the functions,
-- with no contract in it.
-- What need not be believed: contracts (the first group below) stand left of the arrows only. Each function is proved
-- to meet its contract (crate `calls`), so a reader has to believe what stands on the right, and the order in which a
-- function's `ensures` hands its arguments to the contract. The demands bind the six calls of 01, the two of 02, [1],
-- and that of 02, [5], their exports too; demand 1 binds the two of 02, [3], that of 02, [4], and the five of 02, [6],
-- as well, and specs/Registers.antt, specs/Lists.antt and specs/Packed.antt say what those give. `Unfit`, which
-- functions inside may answer, is met by none of them.
-- Letters: u, v bytes lent as a word; w, x words; s bytes lent as a record, a register or a shape; h a holder; m, k
-- memory lent with a word, a text or a list; p, q, also s, buffers for shapes; xs, ys numbers and summary of a packed
-- shape, beside them k a node or a leaf; t bytes lent as a text, or a buffer for letters; ps powers; f, g a form or a
-- call; a ' marks the same memory at exit.
-- Contracts, and the crate and file that define each:
--     Recorded u m m' r           word_to_record                                                  words, Recording
--     Checked s r                 check_record                                                    records, Checking
--     Paired s p q p' q' r        record_to_tree_pair                                             pairs, Promises
--     Measured form_length s r    record_to_length                                                pairs, Promises
--     Measured label_sum s r      record_to_label_length                                          pairs, Promises
--     Spelled s t t' r            record_to_word                                                  spelling, Promises
--     Compared u m m' v k k' r    same_element                                              comparisons, Comparing
--     TextRecorded t m m' r       text_to_record                                                  notation, Promises
--     TextWritten s t t' r        record_to_text                                                  notation, Promises
--     RegisterChecked s r         check_register                                                  registers, Answers
--     EnteredWord u m m' h s s' r enter_word, holder h                                            updates, Entering
--     Listed list m m' r          list_to_records, lent `list` with a word a line                 wordlists, Listing
--     Repacked o xs ys xs' ys' r  pack_shape, o packing s xs ys; grow_caret, o growing xs ys k    packed, Promises
--     Placed o s s' r             unpack_shape, o unpacking xs ys s                               refusals, Placing
--     packing, unpacking, growing the shape that such a call packs or writes, or its refusal      packed, Promises
--     AnswersNode f xs ys k o     carets_before, f carets_before_value; subtree_end,
--                                 f subtree_end_value                                             packed, Promises
--     carets_before_value         the carets before a node                                        packed, Packing
--     subtree_end_value           where its subtree ends                                          trees, Shapes
-- Calls and answers:
--     WordCall w, TextCall ps     an accepted call on the bytes of w, on the text of powers ps    claims, Calls
--     CallOn w, record_by f       one of both, on the word w; the record that it wrote            claims, Calls
--     SpellingCall, PhraseCall, PairCall, LengthCall, LabelLengthCall s, of a record              claims, Calls
--     TwoWordCall u v, ExportedCall w    of two words; of an export                               claims, Calls
--     reply_of, verdict_of        outcomes of the answers: a number or nothing, or a refusal      refusals, Outcomes
--     decision_of                 of the answer on two words: the verdict, or a refused word    comparisons, Comparing
--     number_of_entered           of the answer on a filing: the entry's number, or a refusal     updates, Entering
--     node_end_of                 of the answer that is a node                                    packed, Answers
-- On the right sides:
--     Refuses o R                 each refusal is the outcome o just when R holds of it           claims, Answers
--     RefusesWords d R S          the same of two words                                           claims, Answers
--     IsRefused o, WordRefused d  some refusal; None R: no refusal's condition holds              claims, Answers
--     WordRefusal, RecordRefusal, PairRefusal, SpellingRefusal    the conditions, one by one      claims, Refusals
--     TextRefusal, PhraseRefusal  the same of a text; of a record that is to be written as text   claims, Refusals
--     RegisterRefusal s           12: the bytes are no register                                   claims, Registers
--     EnterRefusal u m h s        a word's own, then 12, then, unless it is filed, 13 and 14      claims, Registers
--     ListRefusal list m          of tables and output lent with a list: 6, then 7                claims, Lists
--     PackRefusal, UnpackRefusal, NodeRefusal, GrowRefusal    of shapes: 15, then 7               claims, Packed
--     NoWordRefusal u m           none of 1, 2, 6 and 7 holds: the word is accepted               claims, Refusals
--     ShortTable, ShortBuffer u m the condition of 6, of 7                                        claims, Refusals
--     NoTextRefusal, ShortTables, ShortRecord    the same of texts: 9, 10, 11, 6 and 7            claims, Refusals
--     RecordOfWord, PairOfRecord, LengthOfRecord, WordOfRecord    what a call gives               claims, Given
--     RecordOfText, TextOfRecord  the same of the calls on texts                                  claims, Given
--     Decides d w x               the verdict d on two words: same, inverse or different, by chains   claims, Given
--     text_of ps, AllInRange ps   the text of powers; indices and exponents are allowed           tokens, Texts, Tokens
--     IsRecord s f                s is the record of the form f                                   records, Format
--     Word, bytes_of w            a string of letters; its bytes, one a letter                    group, Letters, Bytes
--     Joined w x                  a chain of steps, each with one of eight strings, joins w to x  group, Chains
--     A ↔ B, A × B                just when, and; (x : A) × B: there is an x; A → ⊥: not A        mathlib, Core/Logic
-- Assumes nothing.
use Rattle.std.specs.Prelude.{◌≡◌, List, ◌↔◌, ℕ, length, ⊤, Result}
use Rattle.refusals.specs.declared.Refusal.{Refusal}
use Rattle.refusals.specs.declared.NodeNumber.{NodeNumber}
use Rattle.group.specs.Letters.{Word}
use Rattle.group.specs.Bytes.{bytes_of}
use Rattle.group.specs.Chains.{Joined}
use Rattle.group.specs.Forms.{Form}
use Rattle.group.specs.Powers.{SignedPower}
use Rattle.refusals.specs.Outcomes.{accepted, verdict_of, reply_of}
use Rattle.refusals.specs.Memory.{Memory}
use Rattle.refusals.specs.Placing.{Placed}
use Rattle.records.specs.Format.{IsRecord}
use Rattle.records.specs.Checking.{Checked}
use Rattle.trees.specs.Shapes.{subtree_end_value}
use Rattle.lengths.specs.Weights.{form_length}
use Rattle.pairs.specs.Promises.{Paired, label_sum, Measured}
use Rattle.spelling.specs.Promises.{Spelled}
use Rattle.tokens.specs.Tokens.{AllInRange}
use Rattle.tokens.specs.Texts.{text_of}
use Rattle.notation.specs.Promises.{TextRecorded, TextWritten}
use Rattle.words.specs.Recording.{Recorded}
use Rattle.comparisons.specs.Comparing.{Compared, decision_of}
use Rattle.comparisons.specs.declared.Comparison.{Comparison}
use Rattle.comparisons.specs.declared.RefusedWord.{RefusedWord}
use Rattle.wordlists.specs.Listing.{Listed}
use Rattle.packed.specs.Packing.{carets_before_value}
use Rattle.packed.specs.Answers.{node_end_of}
use Rattle.packed.specs.Promises.{packing, unpacking, growing, Repacked, AnswersNode}
use Rattle.registers.specs.Answers.{RegisterChecked}
use Rattle.updates.specs.Entering.{number_of_entered, EnteredWord}
use Rattle.updates.specs.declared.Entered.{Entered}
use Rattle.claims.specs.Refusals.{WordRefusal, NoWordRefusal, ShortTable, ShortBuffer}
use Rattle.claims.specs.Refusals.{RecordRefusal, PairRefusal, SpellingRefusal}
use Rattle.claims.specs.Refusals.{TextRefusal, NoTextRefusal, ShortTables, ShortRecord, PhraseRefusal}
use Rattle.claims.specs.Answers.{Refuses, IsRefused, RefusesWords, WordRefused, None}
use Rattle.claims.specs.Calls.{WordCall, TextCall, CallOn, record_by, MemoryCall, written_by}
use Rattle.claims.specs.Calls.{SpellingCall, spelled_by, PhraseCall, phrased_by, PairCall}
use Rattle.claims.specs.Calls.{LengthCall, LabelLengthCall, TwoWordCall, ExportedCall, exported_record}
use Rattle.claims.specs.Given.{RecordOfWord, PairOfRecord, LengthOfRecord, WordOfRecord}
use Rattle.claims.specs.Given.{RecordOfText, TextOfRecord, Decides}
use Rattle.claims.specs.Registers.{RegisterRefusal, EnterRefusal}
use Rattle.claims.specs.Lists.{ListRefusal}
use Rattle.claims.specs.Packed.{PackRefusal, UnpackRefusal, NodeRefusal, GrowRefusal}

-- Demand 1: each refusal is given under its condition and at no other time, and alters nothing that was lent. A word is
-- accepted when no condition of 1, 2, 6 or 7 holds, a text when none of 9, 10, 11, 6 or 7 does, and the check accepts
-- just the records of forms. A register is checked, a word filed, a list taken and a shape packed, unpacked, asked of a
-- node or grown by the same sentence.
pub record Demand1 : Type 0 where
  pub word_to_record_lem : (u : List ℕ) (m m' : Memory) (r : Result ℕ Refusal) → Recorded u m m' r
      → Refuses (reply_of r) (WordRefusal u m) × (IsRefused (reply_of r) → m' ≡ m)
  pub check_record_lem : (s : List ℕ) (r : Result ⊤ Refusal) → Checked s r → Refuses (verdict_of r) (RecordRefusal s)
  pub record_to_tree_pair_lem : (s p q p' q' : List ℕ) (r : Result ℕ Refusal) → Paired s p q p' q' r
      → Refuses (reply_of r) (PairRefusal s (length p) (length q))
      × (IsRefused (reply_of r) → (p' ≡ p) × (q' ≡ q))
  pub record_to_length_lem : (s : List ℕ) (r : Result ℕ Refusal) → Measured form_length s r
      → Refuses (reply_of r) (RecordRefusal s)
  pub record_to_label_length_lem : (s : List ℕ) (r : Result ℕ Refusal) → Measured label_sum s r
      → Refuses (reply_of r) (RecordRefusal s)
  pub record_to_word_lem : (s t t' : List ℕ) (r : Result ℕ Refusal) → Spelled s t t' r
      → Refuses (reply_of r) (SpellingRefusal s (length t)) × (IsRefused (reply_of r) → t' ≡ t)
  pub same_element_lem : (u v : List ℕ) (m m' k k' : Memory) (r : Result Comparison RefusedWord)
      → Compared u m m' v k k' r
      → RefusesWords (decision_of r) (WordRefusal u m) (WordRefusal v k)
      × (WordRefused (decision_of r) → (m' ≡ m) × (k' ≡ k))
  pub accepted_word : (u : List ℕ) (m : Memory) → NoWordRefusal u m ↔ None (WordRefusal u m)
  pub accepted_record : (s : List ℕ) (r : Result ⊤ Refusal) → Checked s r
      → (verdict_of r ≡ accepted 0) ↔ ((f : Form) × IsRecord s f)
  pub text_to_record_lem : (t : List ℕ) (m m' : Memory) (r : Result ℕ Refusal) → TextRecorded t m m' r
      → Refuses (reply_of r) (TextRefusal t m) × (IsRefused (reply_of r) → m' ≡ m)
  pub record_to_text_lem : (s t t' : List ℕ) (r : Result ℕ Refusal) → TextWritten s t t' r
      → Refuses (reply_of r) (PhraseRefusal s (length t)) × (IsRefused (reply_of r) → t' ≡ t)
  pub accepted_text : (t : List ℕ) (m : Memory) → NoTextRefusal t m ↔ None (TextRefusal t m)
  pub check_register_lem : (s : List ℕ) (r : Result ⊤ Refusal) → RegisterChecked s r
      → Refuses (verdict_of r) (RegisterRefusal s)
  pub enter_word_lem : (u : List ℕ) (m m' : Memory) (h : ℕ) (s s' : List ℕ) (r : Result Entered Refusal)
      → EnteredWord u m m' h s s' r
      → Refuses (number_of_entered r) (EnterRefusal u m h s)
      × (IsRefused (number_of_entered r) → (m' ≡ m) × (s' ≡ s))
  pub list_to_records_lem : (list : List ℕ) (m m' : Memory) (r : Result ℕ Refusal) → Listed list m m' r
      → Refuses (reply_of r) (ListRefusal list m) × (IsRefused (reply_of r) → m' ≡ m)
  pub pack_shape_lem : (s xs ys xs' ys' : List ℕ) (r : Result ℕ Refusal) → Repacked (packing s xs ys) xs ys xs' ys' r
      → Refuses (reply_of r) (PackRefusal s (length xs) (length ys))
      × (IsRefused (reply_of r) → (xs' ≡ xs) × (ys' ≡ ys))
  pub unpack_shape_lem : (xs ys s s' : List ℕ) (r : Result ℕ Refusal) → Placed (unpacking xs ys s) s s' r
      → Refuses (reply_of r) (UnpackRefusal xs ys (length s)) × (IsRefused (reply_of r) → s' ≡ s)
  pub carets_before_lem : (xs ys : List ℕ) (k : ℕ) (r : Result ℕ Refusal)
      → AnswersNode (λ s. carets_before_value s k) xs ys k (reply_of r)
      → Refuses (reply_of r) (NodeRefusal xs ys k)
  pub subtree_end_lem : (xs ys : List ℕ) (k : ℕ) (r : Result NodeNumber Refusal)
      → AnswersNode (λ s. subtree_end_value s k) xs ys k (node_end_of r)
      → Refuses (node_end_of r) (NodeRefusal xs ys k)
  pub grow_caret_lem : (xs ys xs' ys' : List ℕ) (k : ℕ) (r : Result ℕ Refusal)
      → Repacked (growing xs ys k) xs ys xs' ys' r
      → Refuses (reply_of r) (GrowRefusal xs ys k) × (IsRefused (reply_of r) → (xs' ≡ xs) × (ys' ≡ ys))

-- Demand 2: the bytes of an accepted word are those of one word, and its record has that word's map. A record gives the
-- tree pair, the length, also by Table 1, and the spelling of its form. The spelling is joined to every word with that
-- record, and is accepted as a word where tables and buffer are long enough, with that record again. The two-word call,
-- where it answers, leaves the memory of each word as that word's own call does. The bytes of an accepted text are the
-- text of one list of powers, and its record has the map of their letters. The text that is written for a record is
-- accepted where tables and buffer are long enough, with that record again.
pub record Demand2 : Type 0 where
  pub is_word : (u : List ℕ) (m m' : Memory) (r : Result ℕ Refusal) (n : ℕ) → Recorded u m m' r
      → reply_of r ≡ accepted n
      → (w : Word) × (u ≡ bytes_of w)
  pub keeps_map : (w : Word) (f : WordCall w) → RecordOfWord f.lent f.left f.count w
  pub gives_pair : (s : List ℕ) (f : PairCall s)
      → PairOfRecord s f.lent_minus f.lent_plus f.left_minus f.left_plus f.count
  pub gives_length : (s : List ℕ) (f : LengthCall s) → LengthOfRecord s f.count
  pub gives_label_length : (s : List ℕ) (f : LabelLengthCall s) → LengthOfRecord s f.count
  pub gives_word : (s t t' : List ℕ) (r : Result ℕ Refusal) → Spelled s t t' r → None (RecordRefusal s)
      → WordOfRecord s t t' (reply_of r)
  pub joined : (w x : Word) (f : CallOn w) (g : SpellingCall (record_by f)) → spelled_by g ≡ bytes_of x → Joined x w
  pub accepted_again : (s : List ℕ) (g : SpellingCall s) (m : Memory) → (ShortTable (spelled_by g) m → ⊥)
      → (ShortBuffer (spelled_by g) m → ⊥) → NoWordRefusal (spelled_by g) m
  pub record_again : (s : List ℕ) (g : SpellingCall s) (x : Word) (f : CallOn x) → spelled_by g ≡ bytes_of x
      → record_by f ≡ s
  pub leaves_both : (u v : List ℕ) (f : TwoWordCall u v)
      → ((r : Result ℕ Refusal) × Recorded u f.lent1 f.left1 r)
      × ((r : Result ℕ Refusal) × Recorded v f.lent2 f.left2 r)
  pub is_text : (t : List ℕ) (m m' : Memory) (r : Result ℕ Refusal) (n : ℕ) → TextRecorded t m m' r
      → reply_of r ≡ accepted n
      → (ps : List SignedPower) × AllInRange ps × (t ≡ text_of ps)
  pub one_list : (ps qs : List SignedPower) → text_of ps ≡ text_of qs → ps ≡ qs
  pub text_keeps_map : (ps : List SignedPower) (f : TextCall ps) → RecordOfText f.lent f.left f.count ps
  pub gives_text : (s : List ℕ) (g : PhraseCall s) → TextOfRecord s g.lent g.left g.count
  pub text_accepted_again : (s : List ℕ) (g : PhraseCall s) (m : Memory) → (ShortTables m → ⊥)
      → (ShortRecord (phrased_by g) m → ⊥) → NoTextRefusal (phrased_by g) m
  pub text_record_again : (s : List ℕ) (g : PhraseCall s) (f : MemoryCall (TextRecorded (phrased_by g)))
      → written_by f ≡ s

-- Demand 3: two accepted words, each sent in letters or in subscript notation, have equal records, as many bytes and
-- the same byte at each place, just when a chain joins them, whatever the lent memory held; so it is of the exported
-- calls; and the two-word call decides it, and whether a chain joins the one to the other's inverse.
pub record Demand3 : Type 0 where
  pub equal_just_when_joined : (w x : Word) (f : CallOn w) (g : CallOn x) → (record_by f ≡ record_by g) ↔ Joined w x
  pub exported_just_when_joined : (w x : Word) (f : ExportedCall w) (g : ExportedCall x)
      → (exported_record f ≡ exported_record g) ↔ Joined w x
  pub decides_by_chains : (w x : Word) (f : TwoWordCall (bytes_of w) (bytes_of x)) → Decides (decision_of f.answer) w x
