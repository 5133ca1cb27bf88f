-- What a call gives (demand 2), in the papers' terms, with every byte that it leaves.
--     RecordOfWord m m' n w         word to record: the word w, n bytes of record, the memory at entry and at exit
--     RecordOfText m m' n ps        text to record: the powers ps of the text, and the same
--     TextOfRecord s t t' n         record to text: the record s, n bytes of text, the buffer at entry and at exit
--     PairOfRecord s p q p' q' n    record to tree pair: the record s, N = n, both buffers at entry and at exit
--     LengthOfRecord s n            record to length, also by Table 1: the record s, its length n
--     WordOfRecord s t t' o         record to word: the record s, the buffer at entry and at exit, the outcome o
--     Decides d w x                 the decision d on the words w and x: same, inverse or different by chains
--     VerdictOfWords u m m' v k k' d   two words: the bytes and the memory of each, the decision d
-- Names used, and where each is defined:
--     IsRecord s f                  s is the record of the form f                               records, Format
--     Joined w x                    a chain joins w to x                                        group, Chains
--     SameMap u v                   u and v move every dyadic point from 0 to 1 alike           group, Maps
--     letters f                     f written out in letters                                    group, Forms
--     exponent s f i                b_i (the Side s is b_side) or a_i (s is a_side)             group, Forms
--     SmallestPair f t u            t and u have f's exponents a and b and one, smallest size   trees, Pairs
--     SendsLeaves f t u             f's map sends leaf k of t to leaf k of u                    trees, Pairs
--     Redundant t u                 a caret of both trees is redundant                          trees, Pairs
--     shape t; carets t             the bytes of a tree; its number of carets                   trees, Shapes, Trees
--     IsKind t k x                  caret k of t is of kind x                                   lengths, Kinds
--     weights xs ys                 the sum of the weights of two lists of kinds                lengths, Weights
--     At xs k x                     entry k of the list xs is x                                 lists, Entries
--     text_of ps                    the tokens of powers, one space apart                       tokens, Texts
--     form_powers f                 the powers of a form in its order                           group, Powers
--     product_letters ps            the letters that powers are read through                    group, Powers
--     Spells f w                    w is each x_k^e of f in order, through its letters, with    spelling, Spelling
--                                   neighbouring inverse letters deleted until none is left
-- Assumes nothing.
use Rattle.std.specs.Prelude.{◌≡◌, List, ◌↔◌, ℕ, ◌+◌, ◌*◌, ◌<◌, ◌≤◌, length, take, drop, get_or}
use Rattle.lists.specs.Entries.{At}
use Rattle.group.specs.Letters.{Word, inverse}
use Rattle.group.specs.Bytes.{bytes_of}
use Rattle.group.specs.Chains.{Joined}
use Rattle.group.specs.Maps.{SameMap}
use Rattle.group.specs.Forms.{b_side, a_side, Form, exponent, letters}
use Rattle.group.specs.Limits.{limit}
use Rattle.group.specs.Powers.{SignedPower, product_letters, form_powers}
use Rattle.refusals.specs.Outcomes.{Outcome, accepted, refused}
use Rattle.refusals.specs.Memory.{Memory}
use Rattle.records.specs.Format.{encode, IsRecord}
use Rattle.tokens.specs.Texts.{text_of}
use Rattle.trees.specs.Trees.{Tree, carets}
use Rattle.trees.specs.Pairs.{max_carets, SmallestPair, Redundant, SendsLeaves}
use Rattle.trees.specs.Shapes.{shape}
use Rattle.lengths.specs.Kinds.{Kind, IsKind}
use Rattle.lengths.specs.Weights.{weights}
use Rattle.spelling.specs.Spelling.{Spells}
use Rattle.comparisons.specs.Comparing.{Decision, same, inverse as inverses, different}

-- The n bytes at the front of the buffer are the record of a reduced form with the word's map, and the first k entries
-- of the tables are that form's exponents; everything beyond is unchanged.
pub record RecordWritten (k : ℕ) (m m' : Memory) (n : ℕ) (w : Word) : Type 0 where
  pub form : Form
  pub bytes : take n m'.buffer ≡ encode form
  pub count : (n ≡ length (encode form)) × (n ≤ length m'.buffer)
  pub is_record : IsRecord (take n m'.buffer) form
  pub same_map : SameMap (letters form) w
  pub b_table : (i : ℕ) → i < k → get_or m'.b i 0 ≡ exponent b_side form i
  pub a_table : (i : ℕ) → i < k → get_or m'.a i 0 ≡ exponent a_side form i
  pub beyond :
      (drop k m'.b ≡ drop k m.b) × (drop k m'.a ≡ drop k m.a) × (drop n m'.buffer ≡ drop n m.buffer)

-- Word to record: an entry of each table for each index up to the number of letters.
abbrev pub RecordOfWord : (m m' : Memory) (n : ℕ) (w : Word) → Type 0
RecordOfWord m m' n w = RecordWritten (length w + 1) m m' n w

-- Text to record: an entry for each index up to the limit; each power is read through its letters.
abbrev pub RecordOfText : (m m' : Memory) (n : ℕ) (ps : List SignedPower) → Type 0
RecordOfText m m' n ps = RecordWritten (limit + 1) m m' n (product_letters ps)

-- Record to text: the text of the powers of the record's form stands at the front of the buffer; everything beyond is
-- unchanged.
pub record TextOfRecord (s t t' : List ℕ) (n : ℕ) : Type 0 where
  pub form : Form
  pub is_record : IsRecord s form
  pub count : n ≡ length (text_of (form_powers form))
  pub bytes : take n t' ≡ text_of (form_powers form)
  pub beyond : drop n t' ≡ drop n t

-- Record to tree pair: the shapes are those of the smallest pair with the exponents of the record's form, which has no
-- redundant caret and the form's map; the answer is its N, at most 8,193.
pub record PairOfRecord (s p q p' q' : List ℕ) (n : ℕ) : Type 0 where
  pub form : Form
  pub is_record : IsRecord s form
  pub minus : Tree
  pub plus : Tree
  pub smallest : SmallestPair form minus plus
  pub number : (carets minus ≡ n) × (carets plus ≡ n)
  pub few : n ≤ max_carets
  pub shapes : (take (2 * n + 1) p' ≡ shape minus) × (take (2 * n + 1) q' ≡ shape plus)
  pub beyond : (drop (2 * n + 1) p' ≡ drop (2 * n + 1) p) × (drop (2 * n + 1) q' ≡ drop (2 * n + 1) q)
  pub same_map : SendsLeaves form minus plus
  pub no_redundant : Redundant minus plus → ⊥

-- Record to length, also by Table 1: the sum over k of the weight of caret k of T− with caret k of T+ of that pair.
pub record LengthOfRecord (s : List ℕ) (n : ℕ) : Type 0 where
  pub form : Form
  pub is_record : IsRecord s form
  pub minus : Tree
  pub plus : Tree
  pub smallest : SmallestPair form minus plus
  pub minus_kinds : List Kind
  pub plus_kinds : List Kind
  pub minus_are : (k : ℕ) (x : Kind) → At minus_kinds k x ↔ IsKind minus k x
  pub plus_are : (k : ℕ) (x : Kind) → At plus_kinds k x ↔ IsKind plus k x
  pub sum : n ≡ weights minus_kinds plus_kinds

-- What is answered of a spelling: 8 where it passes the limit; else 7 where the buffer is shorter; else the spelling is
-- written, and the rest of the buffer is unchanged.
pub data SpelledInto (word : Word) (t t' : List ℕ) (o : Outcome ℕ) : Type 0 where
  passes_limit : limit < length word → o ≡ refused 8 0 → t' ≡ t → SpelledInto word t t' o
  passes_buffer : length word ≤ limit → length t < length word → o ≡ refused 7 0 → t' ≡ t → SpelledInto word t t' o
  is_written : length word ≤ limit → length word ≤ length t → o ≡ accepted (length word)
      → take (length word) t' ≡ bytes_of word → drop (length word) t' ≡ drop (length word) t → SpelledInto word t t' o

-- Record to word: one word spells the record's form, and it has the form's map; it is answered as above.
pub record WordOfRecord (s t t' : List ℕ) (o : Outcome ℕ) : Type 0 where
  pub form : Form
  pub is_record : IsRecord s form
  pub word : Word
  pub spells : (x : Word) → Spells form x ↔ (x ≡ word)
  pub same_map : SameMap word (letters form)
  pub answer : SpelledInto word t t' o

-- The verdict on two words (02, [7]): same just when a chain joins them; inverse just when none does, and one joins the
-- first to the other's inverse; different just when neither does.
pub record Decides (d : Decision) (w x : Word) : Type 0 where
  pub same_just_when : (d ≡ same) ↔ Joined w x
  pub inverse_just_when : (d ≡ inverses) ↔ ((Joined w x → ⊥) × Joined w (inverse x))
  pub different_just_when : (d ≡ different) ↔ ((Joined w x → ⊥) × (Joined w (inverse x) → ⊥))

-- Two words, where the call answers: the memory of each is left as that word's own call leaves it, and the decision is
-- by chains.
pub record VerdictOfWords (u : List ℕ) (m m' : Memory) (v : List ℕ) (k k' : Memory) (d : Decision) : Type 0 where
  pub first : Word
  pub second : Word
  pub bytes : (u ≡ bytes_of first) × (v ≡ bytes_of second)
  pub first_left : (n : ℕ) × RecordOfWord m m' n first
  pub second_left : (n : ℕ) × RecordOfWord k k' n second
  pub decides : Decides d first second
